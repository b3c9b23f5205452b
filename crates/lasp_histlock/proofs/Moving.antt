-- Who has the turn takes the slot out, and gives it back.
use Rattle.std.proofs.Common.{◌≡◌, ◌≢◌, ℕ, Bool, true, false, List, [], ◌∷◌, set, slice_index, refl, ap, sym, subst, ◌∙◌, inr, arith, Some, None}
use mathlib.Core.Option.{some, none, some-injective, some-ne-none}
use mathlib.Core.Option as maybe
use lib.ListN.{get_elem?}
use Rattle.atomic_table.specs.Table.{Allows, step, takes, gives}
use Rattle.atomic_table.specs.Seated.{TableId}
use Rattle.lasp_histlock.specs.declared.view.View.{View}
use Rattle.lasp_histlock.specs.Names.{name_of}
use Rattle.lasp_histlock.specs.Views.{placed}
use Rattle.lasp_histlock.specs.Rule.{Setting, Fits, Law, Keeps, Lock, Mine, Slot, IsReady, IsBearer, IsHolder, IsFull, IsBare}
use Rattle.lasp_histlock.specs.Steps.{LiftsFull, LiftsBare, SetsBare, SetsFull}
use Rattle.lasp_histlock.proofs.Seats.{off, on, stays, each_set, others_wait, running}

module _ (E F : Type 0) (names : E → ℕ) (may : ℕ → E → Type 0) where
  abbrev V : Type 0
  V = View E F

  abbrev Fit : Setting E F → ℕ → V → Type 0
  Fit = Fits names may

  -- the slot becomes h, and the view of who has the turn says so
  moved : (c : Setting E F) (s : Lock E F) (id : ℕ) (v : V) → Law names may c s → Fit c id v → get_elem? s.views id ≡ some v → v.turn ≡ true
      → (h : maybe.Option (Slot E F)) (homes : List (maybe.Option (Slot E F))) (out lifted : Bool) → homes ≡ h ∷ []
      → ((content : TableId × List V) → h ≡ some (Some content) → name_of content.0 ≡ c.lock)
      → (lifted ≡ true → out ≡ true) → (out ≡ false → IsFull h) → (out ≡ true → lifted ≡ false → IsBare h)
      → Law names may (record c { home = h }) (record { words = set s.words 0 (slice_index s.words 0); homes = homes; views = set s.views id (placed out lifted v) })
  moved c s id v r f at turn h homes out lifted is named lifts full bare =
      let w : V = placed out lifted v in
      let d : Setting E F = record c { home = h } in
      let t = f.turns.one turn in
      let mine : Fit d id w = record {
        knows = f.knows;
        turns = record { one = λ _. t; passes = f.turns.passes; outs = λ _. turn; lifts = lifts; full = λ _. full; bare = λ _. bare };
        bears = f.bears;
        counts = f.counts;
        lost = f.lost;
        owns = f.owns;
        notes = f.notes;
      } in
      let others : (j : ℕ) (u : V) → j ≢ id → Fit c j u → Fit d j u = λ j u apart g.
      let waits : u.turn ≡ true → ⊥ = others_wait E F names may c id j v u f g turn apart in record {
        knows = g.knows;
        turns = record { one = g.turns.one; passes = g.turns.passes; outs = g.turns.outs; lifts = g.turns.lifts; full = λ e. absurd (waits e); bare = λ e. absurd (waits e) };
        bears = g.bears;
        counts = g.counts;
        lost = g.lost;
        owns = g.owns;
        notes = g.notes;
      } in record {
        words = ap (λ (l : List ℕ). set l 0 (slice_index l 0)) r.words;
        homes = is;
        bit = r.bit;
        at_home = named;
        free = λ e. absurd (omega (arith, e, t.2));
        each = each_set (Fit d) s.views id w (λ _. mine) (λ j u apart e l. others j u apart (r.each j u e l));
        carrier = stays s.views id c.carrier v w IsBearer at (λ q. q) r.carrier;
        holder = λ e. stays s.views id c.holder v w IsHolder at (λ q. q) (r.holder e);
        entries = r.entries;
        returned = r.returned;
        lost = r.lost;
      }

  gone : {A : Type 0} (y : Slot E F) → none ≡ some y → A
  gone y e = absurd (some-ne-none y (sym e))

  pub lifts_full : (x : F) (slots id : ℕ) (me : Mine E F) → IsReady me.0 → me.0.turn ≡ true → me.0.out ≡ false
      → Allows (Keeps names may x) slots id me 0 (λ n. n) (LiftsFull (step slots 0 0 0 none) me)
  lifts_full x slots id me ready turn inside s holds wide at small =
      let t = running E F names may x s id me.0 holds at ready.0 in
      let c : Setting E F = t.0 in let r = t.2 in let v : V = me.0 in
      let f = r.each id v at ready.1 in
      let full = f.turns.full turn inside in
      let law = moved c s id v r f at turn none (set s.homes 0 none) true true (ap (λ (l : List (maybe.Option (Slot E F))). set l 0 none) r.homes)
      (λ content e. gone (Some content) e) (λ _. refl) (λ e. on e) (λ _ e. on e) in (
        placed true true v,
        takes 0 (Some full.0),
        ap (λ (l : List (maybe.Option (Slot E F))). get_elem? l 0) r.homes ∙ ap some full.1,
        inr (record c { home = none }, t.1, law),
        (full.0, refl, r.at_home full.0 full.1 ∙ sym f.knows.lock_is),
      )

  pub lifts_bare : (x : F) (slots id : ℕ) (me : Mine E F) → IsReady me.0 → me.0.turn ≡ true → me.0.out ≡ true → me.0.lifted ≡ false
      → Allows (Keeps names may x) slots id me 0 (λ n. n) (LiftsBare (step slots 0 0 0 none) me)
  lifts_bare x slots id me ready turn outside down s holds wide at small =
      let t = running E F names may x s id me.0 holds at ready.0 in
      let c : Setting E F = t.0 in let r = t.2 in let v : V = me.0 in
      let f = r.each id v at ready.1 in
      let law = moved c s id v r f at turn none (set s.homes 0 none) true true (ap (λ (l : List (maybe.Option (Slot E F))). set l 0 none) r.homes)
      (λ content e. gone (Some content) e) (λ _. refl) (λ e. on e) (λ _ e. on e) in (
        placed true true v,
        takes 0 None,
        ap (λ (l : List (maybe.Option (Slot E F))). get_elem? l 0) r.homes ∙ ap some (f.turns.bare turn outside down),
        inr (record c { home = none }, t.1, law),
        refl,
      )

  sets_bare_of : (x : F) (slots id : ℕ) (v : V) → IsReady v → v.turn ≡ true
      → Allows (Keeps names may x) slots id (v, (0, None) ∷ []) 0 (λ n. n) (SetsBare (step slots 0 0 0 none) (v, (0, None) ∷ []))
  sets_bare_of x slots id v ready turn s holds wide at small =
      let t = running E F names may x s id v holds at ready.0 in
      let c : Setting E F = t.0 in let r = t.2 in
      let f = r.each id v at ready.1 in
      let law = moved c s id v r f at turn (some None) (set s.homes 0 (some None)) true false (ap (λ (l : List (maybe.Option (Slot E F))). set l 0 (some None)) r.homes)
      (λ content e. absurd (cc e)) (λ e. off e) (λ e. on e) (λ _ _. refl) in
      (placed true false v, gives, tt, inr (record c { home = some None }, t.1, law), refl)

  pub sets_bare : (x : F) (slots id : ℕ) (me : Mine E F) → me.1 ≡ (0, None) ∷ [] → IsReady me.0 → me.0.turn ≡ true
      → Allows (Keeps names may x) slots id me 0 (λ n. n) (SetsBare (step slots 0 0 0 none) me)
  sets_bare x slots id me carried ready turn =
      subst (λ (l : List (ℕ × Slot E F)). Allows (Keeps names may x) slots id (me.0, l) 0 (λ n. n) (SetsBare (step slots 0 0 0 none) (me.0, l))) (sym carried) (sets_bare_of x slots id me.0 ready turn)

  sets_full_of : (x : F) (slots id : ℕ) (v : V) (content : TableId × List V) → IsReady v → v.turn ≡ true → name_of content.0 ≡ v.lock
      → Allows (Keeps names may x) slots id (v, (0, Some content) ∷ []) 0 (λ n. n) (SetsFull (step slots 0 0 0 none) (v, (0, Some content) ∷ []))
  sets_full_of x slots id v content ready turn named s holds wide at small =
      let t = running E F names may x s id v holds at ready.0 in
      let c : Setting E F = t.0 in let r = t.2 in
      let f = r.each id v at ready.1 in
      let h : maybe.Option (Slot E F) = some (Some content) in
      let law = moved c s id v r f at turn h (set s.homes 0 h) false false (ap (λ (l : List (maybe.Option (Slot E F))). set l 0 h) r.homes)
      (λ other e. let same : other ≡ content = cc e in ap (λ (z : TableId × List V). name_of z.0) same ∙ (named ∙ f.knows.lock_is)) (λ e. off e) (λ _. (content, refl)) (λ e. off e) in
      (placed false false v, gives, tt, inr (record c { home = h }, t.1, law), refl)

  pub sets_full : (x : F) (slots id : ℕ) (me : Mine E F) (content : TableId × List V) → me.1 ≡ (0, Some content) ∷ [] → IsReady me.0 → me.0.turn ≡ true → name_of content.0 ≡ me.0.lock
      → Allows (Keeps names may x) slots id me 0 (λ n. n) (SetsFull (step slots 0 0 0 none) me)
  sets_full x slots id me content carried ready turn named =
      subst (λ (l : List (ℕ × Slot E F)). Allows (Keeps names may x) slots id (me.0, l) 0 (λ n. n) (SetsFull (step slots 0 0 0 none) (me.0, l))) (sym carried) (sets_full_of x slots id me.0 content ready turn named)
