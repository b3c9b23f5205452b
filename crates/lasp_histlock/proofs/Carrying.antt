-- The carrier is joined into the view of the pass that has the turn, and cut from it again.
use Rattle.std.proofs.Common.{◌≡◌, ◌≢◌, ℕ, true, false, List, [], ◌∷◌, ◌++◌, length, set, refl, ap, sym, subst, ◌∙◌, inr, zero-le}
use mathlib.Core.Option.{some}
use mathlib.Core.List.{IsPrefix}
use lib.ListN.{get_elem?}
use Rattle.atomic_table.specs.Table.{Joins, Splits}
use Rattle.atomic_table.proofs.Lists.{at_last, set_else}
use Rattle.lasp_histlock.specs.declared.view.View.{View}
use Rattle.lasp_histlock.specs.History.{entries_of}
use Rattle.lasp_histlock.specs.Views.{burdened, nobody, unburdened, carrier_of}
use Rattle.lasp_histlock.specs.Rule.{Setting, Fits, Law, Keeps, IsReady, IsHolder}
use Rattle.lasp_histlock.proofs.Prefixes.{prefix_self}
use Rattle.lasp_histlock.proofs.Seats.{off, on, at_here, stays, each_set, each_new, each_joined, with_new, others_bare, running}

module _ (E F : Type 0) (names : E → ℕ) (may : ℕ → E → Type 0) where
  abbrev V : Type 0
  V = View E F

  abbrev Fit : Setting E F → ℕ → V → Type 0
  Fit = Fits names may

  pub splits_carrier : (x : F) (id : ℕ) (v : V) → IsReady v → v.turn ≡ true → v.carries ≡ true → Splits (Keeps names may x) id v (unburdened v) (carrier_of v)
  splits_carrier x id v ready turn carries s holds at =
      let t = running E F names may x s id v holds at ready.0 in
      let c : Setting E F = t.0 in let r = t.2 in
      let f = r.each id v at ready.1 in
      let w : V = unburdened v in let a : V = carrier_of v in
      let vs : List V = set s.views id w in
      let d : Setting E F = record c { carrier = length vs } in
      let all : v.seen ≡ c.history = (f.bears.one carries).1 in
      let mine : Fit d id w = record {
        knows = f.knows;
        turns = f.turns;
        bears = record { one = λ b. off b; waits = λ b. off b };
        counts = f.counts;
        lost = f.lost;
        owns = f.owns;
        notes = record { earlier = λ e. off e; other = λ e. off e; entries = λ e. off e; frames = λ e. off e };
      } in
      let new : Fit d (length vs) a = record {
        knows = record { old = refl; lock_is = f.knows.lock_is; frame_is = f.knows.frame_is; prefix = f.knows.prefix; below = zero-le };
        turns = record { one = λ e. off e; passes = λ e. off e; outs = λ e. off e; lifts = λ e. off e; full = λ e. off e; bare = λ e. off e };
        bears = record { one = λ _. (refl, all); waits = λ _ p. off p };
        counts = record { one = λ p. off p; below = λ p. off p; first = λ p. off p; absent = λ p. off p };
        lost = λ p. off p;
        owns = record { whole = λ p. off p; part = λ p. off p };
        notes = record { earlier = λ e. off e; other = λ e. off e; entries = λ e. off e; frames = λ e. off e };
      } in
      let others : (j : ℕ) (u : V) → j ≢ id → Fit c j u → Fit d j u = λ j u apart g.
      let waits : u.carries ≡ true → ⊥ = others_bare E F names may c id j v u f g carries apart in record {
        knows = g.knows;
        turns = g.turns;
        bears = record { one = λ b. absurd (waits b); waits = λ b. absurd (waits b) };
        counts = g.counts;
        lost = g.lost;
        owns = g.owns;
        notes = g.notes;
      } in
      let law : Law names may d (record { words = s.words; homes = s.homes; views = vs ++ a ∷ [] }) = record {
        words = r.words;
        homes = r.homes;
        bit = r.bit;
        at_home = r.at_home;
        free = r.free;
        each = each_new (Fit d) vs a (λ _. new) (each_set (Fit d) s.views id w (λ _. mine) (λ j u apart e l. others j u apart (r.each j u e l)));
        carrier = (a, at_last vs a (length vs) refl, (refl, refl));
        holder = λ e. with_new IsHolder vs a c.holder (stays s.views id c.holder v w IsHolder at (λ q. q) (r.holder e));
        entries = r.entries;
        returned = r.returned;
        lost = r.lost;
      } in
      inr (d, t.1, law)

  pub joins_carrier : (x : F) (id : ℕ) (v : V) (other : ℕ) (w : V) → IsReady v → v.turn ≡ true → IsReady w → w.pass ≡ false → w.carries ≡ true
      → Joins (Keeps names may x) id v other w (burdened v w) nobody
  joins_carrier x id v other w ready turn ready_carrier no_pass carries s holds at apart there =
      let t = running E F names may x s id v holds at ready.0 in
      let c : Setting E F = t.0 in let r = t.2 in
      let f = r.each id v at ready.1 in
      let there' : get_elem? s.views other ≡ some w = sym (set_else s.views id other (burdened v w) apart) ∙ there in
      let g = r.each other w there' ready_carrier.1 in
      let b : V = burdened v w in
      let d : Setting E F = record c { carrier = id } in
      let all : w.seen ≡ c.history = (g.bears.one carries).1 in
      let has_turn = f.turns.one turn in let pass = f.turns.passes turn in
      let mine : Fit d id b = record {
        knows = record { old = f.knows.old; lock_is = f.knows.lock_is; frame_is = f.knows.frame_is; prefix = g.knows.prefix; below = f.knows.below };
        turns = f.turns;
        bears = record { one = λ _. (refl, all); waits = λ _ _ e. on (sym turn ∙ e) };
        counts = f.counts;
        lost = f.lost;
        owns = record { whole = f.owns.whole; part = λ p. f.owns.whole p ∙ ap (entries_of names v.number) (sym all) };
        notes = record { earlier = λ _. subst (IsPrefix v.seen) (sym all) f.knows.prefix; other = λ _. prefix_self w.seen; entries = λ _. f.owns.whole pass ∙ ap (entries_of names v.number) (sym all); frames = λ _. g.knows.frame_is ∙ sym f.knows.frame_is };
      } in
      let others : (j : ℕ) (u : V) → j ≢ id → j ≢ other → Fit c j u → Fit d j u = λ j u not_me not_it h.
      let waits : u.carries ≡ true → ⊥ = others_bare E F names may c other j w u g h carries not_it in record {
        knows = h.knows;
        turns = h.turns;
        bears = record { one = λ e. absurd (waits e); waits = λ e. absurd (waits e) };
        counts = h.counts;
        lost = h.lost;
        owns = h.owns;
        notes = h.notes;
      } in
      let vs : List V = set s.views id b in let vs' : List V = set vs other nobody in
      let here : get_elem? vs' id ≡ some b = set_else vs other id nobody (λ e. apart (sym e)) ∙ at_here s.views id v b at in
      let law : Law names may d (record { words = s.words; homes = s.homes; views = vs' }) = record {
        words = r.words;
        homes = r.homes;
        bit = r.bit;
        at_home = r.at_home;
        free = r.free;
        each = each_joined (Fit d) s.views id b other (λ _. mine) (λ j u not_me not_it e l. others j u not_me not_it (r.each j u e l));
        carrier = (b, here, (ready.1, refl));
        holder = λ _. (b, subst (λ (k : ℕ). get_elem? vs' k ≡ some b) has_turn.0 here, (ready.1, turn));
        entries = r.entries;
        returned = r.returned;
        lost = r.lost;
      } in
      inr (d, t.1, law)
