-- The table as it is made meets the rule, and the table's name is written into the first view.
use Rattle.std.proofs.Common.{◌≡◌, ⊎_elim, ℕ, zero, suc, true, [], ◌∷◌, slice_index, refl, ap, sym, subst, ◌∙◌, inl, inr, None, arith, zero-le}
use Rattle.std.proofs.lemmas.List.Elements.{All-nil}
use mathlib.Core.Option.{some, some-injective, some-ne-none, none}
use lib.ListN.{get_elem?}
use Rattle.atomic_table.specs.Table.{Allows, step, stepped, opening, keeps}
use Rattle.atomic_table.specs.Seated.{TableId}
use Rattle.lasp_histlock.specs.declared.view.View.{View}
use Rattle.lasp_histlock.specs.Names.{name_of}
use Rattle.lasp_histlock.specs.Views.{founder, landed}
use Rattle.lasp_histlock.specs.Rule.{Setting, Fits, Law, Keeps, Lock, Mine}
use Rattle.lasp_histlock.specs.Steps.{Lands}
use Rattle.lasp_histlock.proofs.Prefixes.{prefix_self}
use Rattle.lasp_histlock.proofs.Seats.{off, on}

module _ (E F : Type 0) (names : E → ℕ) (may : ℕ → E → Type 0) where
  abbrev V : Type 0
  V = View E F

  -- the setting of a lock that is made, in its first pass's turn
  abbrev start : F → TableId → Setting E F
  start x table = record { word = 1; home = some None; history = []; held = true; holder = 0; carrier = 0; made = 1; back = []; seat = λ _. 0; lost = 0; lock = name_of table; frame = x }

  pub opens_rule : (x : F) → Keeps names may x (opening (1 ∷ 0 ∷ []) (None ∷ []) (founder x))
  opens_rule x = inl refl

  started : (x : F) (table : TableId) → Law names may (start x table) (record { words = 1 ∷ 0 ∷ []; homes = some None ∷ []; views = landed table (founder x) ∷ [] })
  started x table =
      let w : V = landed table (founder x) in
      let c : Setting E F = start x table in
      let mine : Fits names may c 0 w = record {
        knows = record { old = refl; lock_is = refl; frame_is = refl; prefix = prefix_self []; below = zero-le };
        turns = record { one = λ _. (refl, refl, refl); passes = λ _. refl; outs = λ _. refl; lifts = λ e. off e; full = λ _ e. on e; bare = λ _ _ _. refl };
        bears = record { one = λ _. (refl, refl); waits = λ _ _ e. on e };
        counts = record { one = λ _. refl; below = λ _. omega arith; first = λ _ _. (refl, refl); absent = λ _. refl };
        lost = λ _ e. on e;
        owns = record { whole = λ _. refl; part = λ _. refl };
        notes = record { earlier = λ e. off e; other = λ e. off e; entries = λ e. off e; frames = λ e. off e };
      } in record {
        words = refl;
        homes = refl;
        bit = inr refl;
        at_home = λ content e. absurd (cc e);
        free = λ e. absurd (omega (arith, e));
        each = λ i v e l. only c w mine i v e;
        carrier = (w, refl, (refl, refl));
        holder = λ _. (w, refl, (refl, refl));
        entries = All-nil _;
        returned = All-nil _;
        lost = λ e. on e;
      }
    where
      only : (c : Setting E F) (w : V) → Fits names may c 0 w → (i : ℕ) (v : V) → get_elem? (w ∷ []) i ≡ some v → Fits names may c i v
      only c w mine zero v e = subst (Fits names may c 0) (some-injective w v e) mine
      only c w mine (suc i) v e = absurd (some-ne-none v (sym e))

  pub lands : (x : F) (slots id : ℕ) (table : TableId) (me : Mine E F) → me.0 ≡ founder x → id ≡ 0
      → Allows (Keeps names may x) slots id me 0 (λ n. n) (Lands table (step slots 0 0 0 none) me)
  lands x slots id table me is first s holds wide at small = ⊎_elim
      (λ (e : s ≡ opening (1 ∷ 0 ∷ []) (None ∷ []) (founder x)).
      let w : V = landed table me.0 in
      let after : Lock E F = stepped s 0 (slice_index s.words 0) id me.1 w keeps in
      let same : after ≡ record { words = 1 ∷ 0 ∷ []; homes = some None ∷ []; views = landed table (founder x) ∷ [] } =
      λ i. stepped (e i) 0 (slice_index (e i).words 0) (first i) me.1 (landed table (is i)) keeps in
      (w, keeps, tt, inr (start x table, refl, subst (Law names may (start x table)) (sym same) (started x table)), refl))
      (λ (t : (c : Setting E F) × (c.frame ≡ x) × Law names may c s).
      let f = t.2.each id me.0 at (ap (λ (z : V). z.spent) is) in
      on (sym (ap (λ (z : V). z.fresh) is) ∙ f.knows.old))
      holds
