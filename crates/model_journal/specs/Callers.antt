-- Which caller may make which entry: caller number 0 feeds the replica, and every caller may bind.
use Rattle.std.specs.Prelude.{◌≡◌, ℕ, ◌==◌, List, [], ◌∷◌, filter}
use Rattle.model_journal.specs.Entry.{Act, Update, Deliver, Bind, Extend, Entry}

-- the caller with the number may make the entry
abbrev pub MayMake : ℕ → Act → Type 0
MayMake by (Update x op) = by ≡ 0
MayMake by (Deliver i m) = by ≡ 0
MayMake by (Bind y n) = Unit {0}
MayMake by (Extend d) = by ≡ 0

-- each entry is one that its caller may make
abbrev pub AreMadeByTheirCallers : List Entry → Type 0
AreMadeByTheirCallers [] = Unit {0}
AreMadeByTheirCallers (e ∷ entries) = MayMake e.by e.act × AreMadeByTheirCallers entries

-- the entries of one caller, in their order
abbrev pub made_by : ℕ → List Entry → List Entry
made_by number entries = filter (λ e. e.by == number) entries
