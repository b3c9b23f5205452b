-- Each step of a shelf and of a spy keeps the rule between them.
use Rattle.std.proofs.Common.{◌≡◌, ◌≢◌, ℕ, ◌+◌, List, [], ◌∷◌, ◌++◌, set, Option, Some, None, refl, ap, ◌∙◌, subst, ⊎_elim}
use mathlib.Core.Option.{some}
use lib.ListN.{get_elem?}
use Rattle.logbook.specs.Pages.{Book}
use Rattle.left_right.specs.Register.{Admits, TurnsAt, Turns, Forks, Merges}
use Rattle.atomic_table.proofs.Lists.{at_set, at_snoc}
use Rattle.lasp_histlock.proofs.Prefixes.{prefix_self, prefix_trans}
use Rattle.lasp_snap.specs.declared.name.Name.{Name}
use Rattle.lasp_snap.specs.declared.rule.Known.{Known}
use Rattle.lasp_snap.specs.declared.shown.Shown.{Shown}
use Rattle.lasp_snap.specs.Rule.{published_at, Knows, Keeps, nothing, knowing, Follows, IsShown, Publishes, Looks}

abbrev All : Shown → List Known → Type 0
All x views = (seat : ℕ) (v : Known) → get_elem? views seat ≡ some v → Knows x v

abbrev book_or : Book → Option Name → Book
book_or b None = b
book_or b (Some n) = n.book

nothing_knows : (x : Shown) → Knows x nothing
nothing_knows x = record { seen = (published_at x, refl); shelf = λ b e. absurd (cc (e)) }

knowing_knows : (x : Shown) → Knows x (knowing x)
knowing_knows x = record { seen = prefix_self (published_at x); shelf = λ b e. ap (book_or x.front.book) e }

knows_more : (x y : Shown) (v : Known) → Follows x y → Knows x v → Knows y v
knows_more x y v f k = record { seen = prefix_trans v.seen (published_at x) (published_at y) k.seen f.more; shelf = λ b e. f.shelf ∙ k.shelf b e }

all_set : (x : Shown) (views : List Known) (seat : ℕ) (w : Known) → All x views → Knows x w → All x (set views seat w)
all_set x views seat w h k j u e = ⊎_elim (λ (t : (j ≡ seat) × (w ≡ u)). subst (λ (z : Known). Knows x z) t.1 k) (λ (t : (j ≢ seat) × (get_elem? views j ≡ some u)). h j u t.1) (at_set views seat j w u e)

all_last : (x : Shown) (views : List Known) (w : Known) → All x views → Knows x w → All x (views ++ w ∷ [])
all_last x views w h k j u e = ⊎_elim (λ (there : get_elem? views j ≡ some u). h j u there) (λ (same : w ≡ u). subst (λ (z : Known). Knows x z) same k) (at_snoc views w u j e)

-- the two copies as they begin
pub begins : (x : Shown) → IsShown x → Keeps x (nothing ∷ [])
begins x is = record { shown = is; each = all_last x [] nothing (λ seat v e. absurd (cc (e))) (nothing_knows x) }

pub admits : Admits Keeps nothing
admits x views h = record { shown = h.shown; each = all_last x views nothing h.each (nothing_knows x) }

pub publishes : (seat : ℕ) (v : Known) (x y : Shown) → Follows x y → TurnsAt Keeps seat v x y Publishes
publishes seat v x y f views h at =
    (knowing y, record { shown = f.shown; each = all_set y views seat (knowing y) (λ j u e. knows_more x y u f (h.each j u e)) (knowing_knows y) }, refl)

pub looks : (seat : ℕ) (v : Known) → Turns Keeps seat v (λ x. x) Looks
looks seat v x views h at =
    let k = h.each seat v at in
    let w : Known = record { seen = published_at x; shelf = v.shelf; readings = v.readings + 1 } in (
      w,
      record { shown = h.shown; each = all_set x views seat w h.each (record { seen = prefix_self (published_at x); shelf = k.shelf }) },
      record { before = k.seen; seen = refl; same = refl; shelf = k.shelf; shown = h.shown; given = refl },
    )

pub forks : (seat : ℕ) (v : Known) → Forks Keeps seat v v v
forks seat v x views h at =
    let k = h.each seat v at in
    record { shown = h.shown; each = all_last x (set views seat v) v (all_set x views seat v h.each k) k }

pub merges : (seat : ℕ) (v : Known) (other : ℕ) (w : Known) → Merges Keeps seat v other w w nothing
merges seat v other w x views h at apart there =
    let k : Knows x w = ⊎_elim (λ (t : (other ≡ seat) × (w ≡ w)). absurd (apart t.0)) (λ (t : (other ≢ seat) × (get_elem? views other ≡ some w)). h.each other w t.1) (at_set views seat other w w there) in
    record { shown = h.shown; each = all_set x (set views seat w) other nothing (all_set x views seat w h.each k) (nothing_knows x) }
