-- The rule says what specs/Moments says.
use Rattle.std.proofs.Common.{◌≡◌, ◌≢◌, ◌⊎◌, inl, inr, ⊎_elim, ℕ, zero, suc, ◌<◌, Bool, true, false, eqb, List, [], ◌∷◌, All, length, slice_index, refl, ap, sym, subst, subst₂, ◌∙◌, arith, ◌||◌, Some, None}
use Rattle.std.proofs.lemmas.Bool.{false_from_ne_true, true_from_ne_false, eqb-true, cases_Bool}
use Rattle.std.proofs.lemmas.List.Elements.{All-nil, All-head, All-tail, All-weaker}
use mathlib.Core.Option.{some, none, some-injective, some-ne-none}
use mathlib.Core.Option as maybe
use mathlib.Core.List.{IsPrefix}
use lib.ListN.{get_elem?}
use Rattle.atomic_table.specs.Table.{opening}
use Rattle.lasp_histlock.specs.declared.view.View.{View}
use Rattle.lasp_histlock.specs.History.{entries_of, added, Allowed, among}
use Rattle.lasp_histlock.specs.Views.{founder}
use Rattle.lasp_histlock.specs.Rule.{Setting, Fits, Law, Keeps, Lock, Slot, IsFull}
use Rattle.lasp_histlock.specs.Moments.{Stands, IsFirst, HasHistory, IsAway, IsSlotEmpty, IsOrderly, turn_word, count_word}
use Rattle.lasp_histlock.proofs.Prefixes.{prefix_added, none_past}
use Rattle.lasp_histlock.proofs.Seats.{off, on}

All-among : (P : ℕ → Type 0) (k : ℕ) (ks : List ℕ) → All P ks → among k ks ≡ true → P k
All-among P k [] h e = off e
All-among P k (n ∷ ns) h e = ⊎_elim
    (λ same. subst P (sym (eqb-true k n same)) (All-head P n ns h))
    (λ other. All-among P k ns (All-tail P n ns h) (sym (ap (λ (b : Bool). b || among k ns) other) ∙ e))
    (cases_Bool (eqb k n))

module _ (E F : Type 0) (names : E → ℕ) (may : ℕ → E → Type 0) where
  abbrev V : Type 0
  V = View E F

  module _ (c : Setting E F) (s : Lock E F) (r : Law names may c s) where
    turn_is : turn_word s ≡ c.word
    turn_is = ap (λ (l : List ℕ). slice_index l 0) r.words

    count_is : count_word s ≡ length c.history
    count_is = ap (λ (l : List ℕ). slice_index l 1) r.words

    fits : (i : ℕ) (v : V) → Stands s i v → Fits names may c i v
    fits i v a = r.each i v a.0 a.1

    not_full : IsSlotEmpty s → IsFull c.home → ⊥
    not_full e full =
        let home : get_elem? s.homes 0 ≡ some c.home = ap (λ (l : List (maybe.Option (Slot E F))). get_elem? l 0) r.homes in
        let is : c.home ≡ some (Some (full.0)) = full.1 in
        ⊎_elim (λ gone. absurd (cc (sym home ∙ gone, is))) (λ bare. absurd (cc (sym home ∙ bare, is))) e

    history_is : (j : ℕ) (u : V) → HasHistory s j u → u.seen ≡ c.history
    history_is j u b = ((fits j u b.0).bears.one b.1).1

    law_orderly : IsOrderly names may c.frame s
    law_orderly = record {
      turn = record {
        bit = ⊎_elim (λ e. inl (turn_is ∙ e)) (λ e. inr (turn_is ∙ e)) r.bit;
        one = λ i j v u a b tv tu. ((fits i v a).turns.one tv).0 ∙ sym ((fits j u b).turns.one tu).0;
        free = λ z i v a. false_from_ne_true v.turn (λ e. omega (arith, ((fits i v a).turns.one e).2, sym turn_is ∙ z));
        out = λ i v a. (fits i v a).turns.outs;
        empty = λ e. (
          ⊎_elim (λ z. absurd (not_full e (r.free z).1)) (λ o. turn_is ∙ o) r.bit,
          λ i v a turn. true_from_ne_false v.out (λ inside. not_full e ((fits i v a).turns.full turn inside)),
        );
      };
      history = record {
        there = (c.carrier, r.carrier.0, ((r.carrier.1, r.carrier.2.0), r.carrier.2.1));
        one = λ i j v u a b. ((fits i v a.0).bears.one a.1).0 ∙ sym ((fits j u b.0).bears.one b.1).0;
        seen = λ i j v u a b. subst (IsPrefix v.seen) (sym (history_is j u b)) (fits i v a).knows.prefix;
        count = λ j u b. count_is ∙ ap length (sym (history_is j u b));
        told = λ i v a. omega (arith, (fits i v a).knows.below, count_is);
        turn = λ i v a p idle. let w = (fits i v a.0).bears.waits a.1 p idle in
            (turn_is ∙ w.1, λ j u b. false_from_ne_true u.turn (λ e. on (sym ((fits j u b).turns.one e).1 ∙ w.0)));
      };
      frames = λ i v a. (fits i v a).knows.frame_is;
      numbers = record {
        differ = λ i j v u a p b q same. (fits i v a).counts.one p ∙ (ap c.seat same ∙ sym ((fits j u b).counts.one q));
        below = λ i j v first a p b. subst (λ (n : ℕ). v.number < n) (sym ((fits j first b.0).counts.first b.1 b.2).0) ((fits i v a).counts.below p);
        entries = λ i j v first a b.
            let made = ((fits j first b.0).counts.first b.1 b.2).0 in
            let all : All (λ e. (names e < c.made) × Allowed names may e) v.seen = subst (All (λ e. (names e < c.made) × Allowed names may e)) (sym (history_is i v a)) r.entries in
            All-weaker (λ e. (names e < c.made) × Allowed names may e) (λ e. (names e < first.made) × Allowed names may e) (λ e m. (omega (arith, m.0, made), m.1)) v.seen all;
        own = λ i j v u a p b.
            let f = fits i v a in
            let whole : v.own ≡ entries_of names v.number u.seen = f.owns.whole p ∙ ap (entries_of names v.number) (sym (history_is j u b)) in
            let prefix : IsPrefix v.seen u.seen = subst (IsPrefix v.seen) (sym (history_is j u b)) f.knows.prefix in (
              whole,
              none_past names v.number v.seen (added v.seen u.seen)
                  (sym (f.owns.part p) ∙ (whole ∙ sym (ap (entries_of names v.number) (prefix_added v.seen u.seen prefix)))),
            );
      };
      returned = record {
        back = λ j first b k e.
            let same = (fits j first b.0).counts.first b.1 b.2 in
            let there : among k c.back ≡ true = sym (ap (among k) same.1) ∙ e in
            let in_range = All-among (λ n. (0 < n) × (n < c.made)) k c.back r.returned there in
            (in_range.0, omega (arith, in_range.1, same.0), λ i v a p number. off (sym ((fits i v a).counts.absent p) ∙ (ap (λ (n : ℕ). among n c.back) number ∙ there)));
        taken = λ j first b one. somebody j first b (sym turn_is ∙ one) c.held refl;
      };
    }
      where
        somebody : (j : ℕ) (first : V) → IsFirst s j first → c.word ≡ 1 → (held : Bool) → c.held ≡ held
            → ((i : ℕ) × (v : V) × Stands s i v × (v.turn ≡ true)) ⊎ ((k : ℕ) × (0 < k) × (k < first.made) × (among k first.back ≡ false) × IsAway s k)
        somebody j first b one true e = let h = r.holder e in inl (c.holder, h.0, (h.1, h.2.0), h.2.1)
        somebody j first b one false e =
            let same = (fits j first b.0).counts.first b.1 b.2 in let gone = r.lost e one in
            inr (c.lost, gone.0, omega (arith, gone.1, same.0), ap (among c.lost) same.1 ∙ gone.2, λ i v a p. (fits i v a).lost p e one)

  -- the table as it is made
  abbrev made_table : F → Lock E F
  made_table x = opening (1 ∷ 0 ∷ []) (None ∷ []) (founder x)

  alone : (x : F) (i : ℕ) (v : V) → Stands (made_table x) i v → (i ≡ 0) × (founder x ≡ v)
  alone x zero v a = (refl, some-injective (founder x) v a.0)
  alone x (suc i) v a = absurd (some-ne-none v (sym a.0))

  opening_orderly : (x : F) → IsOrderly names may x (made_table x)
  opening_orderly x =
      let s : Lock E F = made_table x in let only = alone x in
      let seen : (i : ℕ) (v : V) → Stands s i v → [] ≡ v.seen = λ i v a. ap (λ (z : V). z.seen) (only i v a).1 in
      let number : (i : ℕ) (v : V) → Stands s i v → 0 ≡ v.number = λ i v a. ap (λ (z : V). z.number) (only i v a).1 in
      let turn : (i : ℕ) (v : V) → Stands s i v → v.turn ≡ true = λ i v a. sym (ap (λ (z : V). z.turn) (only i v a).1) in record {
        turn = record {
          bit = inr refl;
          one = λ i j v u a b tv tu. (only i v a).0 ∙ sym (only j u b).0;
          free = λ z. absurd (omega (arith, z));
          out = λ i v a o. turn i v a;
          empty = λ _. (refl, λ i v a t. sym (ap (λ (z : V). z.out) (only i v a).1));
        };
        history = record {
          there = (0, founder x, ((refl, refl), refl));
          one = λ i j v u a b. (only i v a.0).0 ∙ sym (only j u b.0).0;
          seen = λ i j v u a b. subst (λ (l : List E). IsPrefix l u.seen) (seen i v a) (u.seen, refl);
          count = λ j u b. ap length (seen j u b.0);
          told = λ i v a. omega (arith, ap (λ (z : V). z.told) (only i v a).1);
          turn = λ i v a p idle. on (sym (turn i v a.0) ∙ idle);
        };
        frames = λ i v a. sym (ap (λ (z : V). z.frame) (only i v a).1);
        numbers = record {
          differ = λ i j v u a p b q same. (only i v a).0 ∙ sym (only j u b).0;
          below = λ i j v first a p b. omega (arith, number i v a, ap (λ (z : V). z.made) (only j first b.0).1);
          entries = λ i j v first a b. subst (All (λ e. (names e < first.made) × Allowed names may e)) (seen i v a.0) (All-nil (λ e. (names e < first.made) × Allowed names may e));
          own = λ i j v u a p b. (
            sym (ap (λ (z : V). z.own) (only i v a).1) ∙ ap (entries_of names v.number) (seen j u b.0),
            subst₂ (λ (l m : List E). All (λ e. names e ≢ v.number) (added l m)) (seen i v a) (seen j u b.0) (All-nil (λ e. names e ≢ v.number)),
          );
        };
        returned = record {
          back = λ j first b k e. off (ap (λ (z : V). among k z.back) (only j first b.0).1 ∙ e);
          taken = λ j first b one. inl (0, founder x, (refl, refl), refl);
        };
      }

  pub rule_orderly : (x : F) (s : Lock E F) → Keeps names may x s → IsOrderly names may x s
  rule_orderly x s = ⊎_elim
      (λ (e : s ≡ made_table x). subst (IsOrderly names may x) (sym e) (opening_orderly x))
      (λ (t : (c : Setting E F) × (c.frame ≡ x) × Law names may c s). subst (λ (f : F). IsOrderly names may f s) t.1 (law_orderly t.0 s t.2))
