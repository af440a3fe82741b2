mod Stretches
mod Said
