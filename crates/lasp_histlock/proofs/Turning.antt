-- A turn begins by an exchange and ends by a store.
use Rattle.std.proofs.Common.{◌≡◌, ◌≢◌, inl, inr, ⊎_elim, ℕ, ◌<◌, Bool, true, false, eqb, eq-eqb, ne_eqb, List, set, slice_index, refl, ap, sym, subst, ◌∙◌, arith}
use mathlib.Core.Option.{some, some-injective, none}
use mathlib.Core.Logic.{dite}
use native.Mathlib.Decide.{ℕ_discrete}
use Rattle.std.proofs.lemmas.Bool.{false_from_ne_true}
use prog.Atomic.{either}
use lib.ListN.{get_elem?}
use Rattle.atomic_table.specs.Table.{Allows, stepped, step, keeps}
use Rattle.lasp_histlock.specs.declared.view.View.{View}
use Rattle.lasp_histlock.specs.History.{among}
use Rattle.lasp_histlock.specs.Views.{turned_to, missed}
use Rattle.lasp_histlock.specs.Rule.{Setting, Fits, Law, Keeps, Lock, Mine, IsReady, IsBearer, IsHolder}
use Rattle.lasp_histlock.specs.Steps.{Opens, Frees, SomeOut}
use Rattle.lasp_histlock.proofs.Seats.{off, on, at_here, stays, each_set, others_wait, running}

module _ (E F : Type 0) (names : E → ℕ) (may : ℕ → E → Type 0) where
  abbrev V : Type 0
  V = View E F

  abbrev Fit : Setting E F → ℕ → V → Type 0
  Fit = Fits names may

  pub frees : (x : F) (slots id : ℕ) (me : Mine E F) → IsReady me.0 → me.0.turn ≡ true → me.0.carries ≡ false → me.0.out ≡ false
      → Allows (Keeps names may x) slots id me 0 (λ _. 0) (λ _. Frees (step slots 0 0 0 none) me 0)
  frees x slots id me ready turn bare in_place s holds wide at small =
      let t = running E F names may x s id me.0 holds at ready.0 in
      let c : Setting E F = t.0 in let r = t.2 in let v : V = me.0 in
      let f = r.each id v at ready.1 in
      let w : V = turned_to false v in
      let d : Setting E F = record c { word = 0; held = false } in
      let mine : Fit d id w = record {
        knows = f.knows;
        turns = record { one = λ e. off e; passes = λ e. off e; outs = λ o. off (sym in_place ∙ o); lifts = f.turns.lifts; full = λ e. off e; bare = λ e. off e };
        bears = record { one = λ b. off (sym bare ∙ b); waits = λ b. off (sym bare ∙ b) };
        counts = f.counts;
        lost = λ _ _ e. absurd (omega (arith, e));
        owns = f.owns;
        notes = f.notes;
      } in
      let others : (j : ℕ) (u : V) → j ≢ id → Fit c j u → Fit d j u = λ j u apart g.
      let waits : u.turn ≡ true → ⊥ = others_wait E F names may c id j v u f g turn apart in record {
        knows = g.knows;
        turns = record { one = λ e. absurd (waits e); passes = g.turns.passes; outs = g.turns.outs; lifts = g.turns.lifts; full = λ e. absurd (waits e); bare = λ e. absurd (waits e) };
        bears = record { one = g.bears.one; waits = λ b p e. off (sym (g.bears.waits b p e).0 ∙ (f.turns.one turn).1) };
        counts = g.counts;
        lost = λ _ _ e. absurd (omega (arith, e));
        owns = g.owns;
        notes = g.notes;
      } in
      let law : Law names may d (stepped s 0 0 id me.1 w keeps) = record {
        words = ap (λ (l : List ℕ). set l 0 0) r.words;
        homes = r.homes;
        bit = inl refl;
        at_home = r.at_home;
        free = λ _. (refl, f.turns.full turn in_place);
        each = each_set (Fit d) s.views id w (λ _. mine) (λ j u apart e l. others j u apart (r.each j u e l));
        carrier = stays s.views id c.carrier v w IsBearer at (λ q. q) r.carrier;
        holder = λ e. off e;
        entries = r.entries;
        returned = r.returned;
        lost = λ _ e. absurd (omega (arith, e));
      } in
      (w, keeps, tt, inr (d, t.1, law), refl)

  -- where the word is 1 and the first pass has no turn, some number is out
  some_out : (c : Setting E F) (s : Lock E F) (id : ℕ) (v : V) → Law names may c s → Fit c id v → get_elem? s.views id ≡ some v
      → v.pass ≡ true → v.turn ≡ false → v.number ≡ 0 → c.word ≡ 1 → (b : Bool) → c.held ≡ b → SomeOut v.made v.back
  some_out c s id v r f at pass idle first one false e =
      let t = r.lost e one in let same = f.counts.first pass first in
      (c.lost, t.0, subst (λ (n : ℕ). c.lost < n) (sym same.0) t.1, ap (among c.lost) same.1 ∙ t.2)
  some_out c s id v r f at pass idle first one true e =
      let t = r.holder e in let u : V = t.0 in
      let g = r.each c.holder u t.1 t.2.0 in
      let is_pass = g.turns.passes t.2.1 in
      let same = f.counts.first pass first in
      let positive : u.number ≢ 0 = λ zero_number.
      let here : c.holder ≡ id = g.counts.one is_pass ∙ ap c.seat (zero_number ∙ sym first) ∙ sym (f.counts.one pass) in
      let is : u ≡ v = some-injective u v (sym t.1 ∙ ap (get_elem? s.views) here ∙ at) in
      on (sym t.2.1 ∙ ap (λ (z : V). z.turn) is ∙ idle) in
      (u.number, omega (arith, positive), subst (λ (n : ℕ). u.number < n) (sym same.0) (g.counts.below is_pass), ap (among u.number) same.1 ∙ g.counts.absent is_pass)

  pub opens : (x : F) (slots id : ℕ) (me : Mine E F) → IsReady me.0 → me.0.pass ≡ true → me.0.turn ≡ false
      → Allows (Keeps names may x) slots id me 0 (λ n. either (eqb n 0) 1 n) (Opens (step slots 0 0 1 none) me)
  opens x slots id me ready pass idle s holds wide at small =
      let t = running E F names may x s id me.0 holds at ready.0 in
      let c : Setting E F = t.0 in let r = t.2 in let v : V = me.0 in
      let f = r.each id v at ready.1 in
      let n : ℕ = slice_index s.words 0 in
      let is_word : n ≡ c.word = ap (λ (l : List ℕ). slice_index l 0) r.words in
      dite (ℕ_discrete n 0)
      (λ (zero_word : n ≡ 0).
      let w : V = turned_to true v in
      let d : Setting E F = record c { word = 1; held = true; holder = id } in
      let was : c.word ≡ 0 = sym is_word ∙ zero_word in
      let shut : c.word ≡ 1 → ⊥ = λ e. omega (arith, was, e) in
      let inside : v.out ≡ false = false_from_ne_true v.out (λ o. on (sym (f.turns.outs o) ∙ idle)) in
      let bare : v.carries ≡ false = false_from_ne_true v.carries (λ b. shut (f.bears.waits b pass idle).1) in
      let full = (r.free was).1 in
      let mine : Fit d id w = record {
        knows = f.knows;
        turns = record { one = λ _. (refl, refl, refl); passes = λ _. pass; outs = λ o. refl; lifts = f.turns.lifts; full = λ _ _. full; bare = λ _ o. off (sym inside ∙ o) };
        bears = record { one = λ b. off (sym bare ∙ b); waits = λ b. off (sym bare ∙ b) };
        counts = f.counts;
        lost = λ _ e. on e;
        owns = f.owns;
        notes = f.notes;
      } in
      let others : (j : ℕ) (u : V) → Fit c j u → Fit d j u = λ j u g.
      let waits : u.turn ≡ true → ⊥ = λ e. shut (g.turns.one e).2 in record {
        knows = g.knows;
        turns = record { one = λ e. absurd (waits e); passes = g.turns.passes; outs = g.turns.outs; lifts = g.turns.lifts; full = λ e. absurd (waits e); bare = λ e. absurd (waits e) };
        bears = record { one = g.bears.one; waits = λ b p e. absurd (shut (g.bears.waits b p e).1) };
        counts = g.counts;
        lost = λ _ e. on e;
        owns = g.owns;
        notes = g.notes;
      } in
      let law : Law names may d (stepped s 0 1 id me.1 w keeps) = record {
        words = ap (λ (l : List ℕ). set l 0 1) r.words;
        homes = r.homes;
        bit = inr refl;
        at_home = r.at_home;
        free = λ e. absurd (omega (arith, e));
        each = each_set (Fit d) s.views id w (λ _. mine) (λ j u apart e l. others j u (r.each j u e l));
        carrier = stays s.views id c.carrier v w IsBearer at (λ q. q) r.carrier;
        holder = λ _. (w, at_here s.views id v w at, (ready.1, refl));
        entries = r.entries;
        returned = r.returned;
        lost = λ e. on e;
      } in
      (w, keeps, tt, subst (λ (b : Bool). Keeps names may x (stepped s 0 (either b 1 n) id me.1 w keeps)) (sym (eq-eqb n 0 zero_word)) (inr (d, t.1, law)), (λ _. (refl, bare), λ apart. absurd (apart zero_word))))
      (λ (other : n ≢ 0).
      let w : V = missed v in
      let one : c.word ≡ 1 = ⊎_elim (λ e. absurd (other (is_word ∙ e))) (λ e. e) r.bit in
      let law : Law names may c (stepped s 0 n id me.1 w keeps) = record {
        words = ap (λ (l : List ℕ). set l 0 (slice_index l 0)) r.words;
        homes = r.homes;
        bit = r.bit;
        at_home = r.at_home;
        free = r.free;
        each = each_set (Fit c) s.views id w (λ _. record { knows = f.knows; turns = f.turns; bears = f.bears; counts = f.counts; lost = f.lost; owns = f.owns; notes = f.notes }) (λ j u apart e l. r.each j u e l);
        carrier = stays s.views id c.carrier v w IsBearer at (λ q. q) r.carrier;
        holder = λ e. stays s.views id c.holder v w IsHolder at (λ q. q) (r.holder e);
        entries = r.entries;
        returned = r.returned;
        lost = r.lost;
      } in (
        w,
        keeps,
        tt,
        subst (λ (b : Bool). Keeps names may x (stepped s 0 (either b 1 n) id me.1 w keeps)) (sym (ne_eqb n 0 other)) (inr (c, t.1, law)),
        (λ e. absurd (other e), λ _. (refl, λ first. some_out c s id v r f at pass idle first one c.held refl)),
      ))
