-- What contracts say of a desk and of hands.
use Rattle.std.specs.Prelude.{◌≡◌, ℕ, ◌+◌, ◌-◌, ◌/◌, ◌≤◌, ◌⊎◌, List, []}
use mathlib.Core.List.{IsPrefix}
use Rattle.cts_units.specs.declared.params.Params.{Params}
use Rattle.cts_instance.specs.declared.parts.Parts.{Parts}
use Rattle.cts_instance.specs.Validity.{with_sinks}
use Rattle.cts_turn.specs.Passes.{made_by, seen_by, share_of}
use Rattle.cts_memo.specs.declared.entry.MemoEntry.{MemoEntry}
use Rattle.cts_memo.specs.declared.table.Table.{Table}
use Rattle.cts_memo.specs.Passes as memos
use Rattle.cts_memo.specs.Sound.{IsSound}
use Rattle.cts_memo.specs.Tables as tables
use Rattle.cts_edit.specs.declared.edit.Entry.{Entry}
use Rattle.cts_design.specs.Edits.{after}
use Rattle.cts_design.specs.Passes as designs
use Rattle.cts_session.specs.declared.desk.Desk.{Desk}
use Rattle.cts_session.specs.declared.desk.Hands.{Hands}

-- the instance whose sinks are edited
abbrev pub base_of : Desk → Parts
base_of desk = desk.instance

-- the instance with the sinks after some edits
abbrev pub version_of : Parts → List Entry → Parts
version_of base edits = with_sinks base (after base.sinks edits)

-- The hands have a pass of the desk's memo and one of its design.
pub record AreHandsOf (desk : Desk) (hands : Hands) : Type 0 where
  pub memo : memos.IsPassOf desk.memo hands.memo
  pub design : designs.IsPassOf desk.design hands.design

-- What hands have seen of the memo and of the design and made of them, and their share of each, of 65,536 parts.
pub record Known : Type 0 where
  pub entries : List MemoEntry
  pub entries_made : ℕ
  pub memo_share : ℕ
  pub edits : List Entry
  pub edits_made : ℕ
  pub design_share : ℕ

abbrev pub known_by : Hands → Known
known_by hands = record {
  entries = seen_by hands.memo;
  entries_made = made_by hands.memo;
  memo_share = share_of hands.memo;
  edits = seen_by hands.design;
  edits_made = made_by hands.design;
  design_share = share_of hands.design;
}

-- hands that have seen nothing, with the whole share of both
abbrev pub at_start : Known
at_start = record {
  entries = [];
  entries_made = 0;
  memo_share = 65536;
  edits = [];
  edits_made = 0;
  design_share = 65536;
}

-- they have the whole share of both
abbrev pub AreWhole : Hands → Type 0
AreWhole hands = (share_of hands.memo ≡ 65536) × (share_of hands.design ≡ 65536)

-- a memo's table: these entries, which are sound for the parameters that they were made with
pub record IsTableOf (params : Params) (entries : List MemoEntry) (table : Table) : Type 0 where
  pub base : tables.base_of table ≡ params
  pub told : tables.told_by table ≡ entries
  pub sound : IsSound params entries

-- there is a share for two of each
abbrev pub AreDivisible : Hands → Type 0
AreDivisible hands = (2 ≤ share_of hands.memo) × (2 ≤ share_of hands.design)

-- the greater half of the shares, with what was made
abbrev pub greater_half : Known → Known
greater_half known = record known {
  memo_share = known.memo_share - known.memo_share / 2;
  design_share = known.design_share - known.design_share / 2;
}

-- the other half, with nothing made
abbrev pub lesser_half : Known → Known
lesser_half known = record known {
  entries_made = 0;
  memo_share = known.memo_share / 2;
  edits_made = 0;
  design_share = known.design_share / 2;
}

-- the longer one of two lists, which begins with the other one
abbrev pub IsLonger : {A : Type 0} → List A → List A → List A → Type 0
IsLonger {A} a b longer = ((longer ≡ a) × IsPrefix b a) ⊎ ((longer ≡ b) × IsPrefix a b)

-- what hands know that were joined: the longer lists, and the sums of all that was made and of the shares
pub record AreJoined (a b both : Known) : Type 0 where
  pub entries : IsLonger a.entries b.entries both.entries
  pub entries_made : both.entries_made ≡ a.entries_made + b.entries_made
  pub memo_share : both.memo_share ≡ a.memo_share + b.memo_share
  pub edits : IsLonger a.edits b.edits both.edits
  pub edits_made : both.edits_made ≡ a.edits_made + b.edits_made
  pub design_share : both.design_share ≡ a.design_share + b.design_share

-- What hands have seen begins with what they had seen before.
pub record GoesOn (before now : Known) : Type 0 where
  pub entries : IsPrefix before.entries now.entries
  pub edits : IsPrefix before.edits now.edits
