pub mod FreeMap
pub mod FreePoints
pub mod Index
pub mod NearestFree
pub mod Raster
pub mod Search
pub mod Places
