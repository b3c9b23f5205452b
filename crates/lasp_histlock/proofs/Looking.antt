-- Loads tell what the rule knows of the view, and an addition makes the history longer.
use Rattle.std.proofs.Common.{◌≡◌, ◌≢◌, ℕ, ◌+◌, ◌%◌, ◌^◌, ◌<◌, ◌≤◌, true, List, [], ◌∷◌, ◌++◌, All, length, set, slice_index, refl, ap, sym, subst, ◌∙◌, inr, arith, mod-eq_of_lt, append-nil, length-append}
use mathlib.Core.Option.{none}
use mathlib.Core.List.{IsPrefix}
use Rattle.std.proofs.lemmas.List.Elements.{All-append, All-weaker}
use Rattle.atomic_table.specs.Table.{Allows, step, stepped, keeps}
use Rattle.lasp_histlock.specs.declared.view.View.{View}
use Rattle.lasp_histlock.specs.History.{Allowed, Made, entries_of}
use Rattle.lasp_histlock.specs.Views.{looked, recalled, grown}
use Rattle.lasp_histlock.specs.Rule.{Setting, Fits, Law, Keeps, Lock, Mine, IsReady, IsBearer, IsHolder}
use Rattle.lasp_histlock.specs.Steps.{Looks, Recalls, Adds, Told}
use Rattle.lasp_histlock.proofs.Prefixes.{All-prefix, prefix_self, prefix_more, prefix-length, entries_of-append, entries_of-none, entries_of-all}
use Rattle.lasp_histlock.proofs.Seats.{off, stays, each_set, others_bare, running}

module _ (E F : Type 0) (names : E → ℕ) (may : ℕ → E → Type 0) where
  abbrev V : Type 0
  V = View E F

  abbrev Fit : Setting E F → ℕ → V → Type 0
  Fit = Fits names may

  told : (c : Setting E F) (s : Lock E F) (id : ℕ) (v : V) → Law names may c s → Fit c id v → Told names may v
  told c s id v r f = record {
    sound = λ pass. record { own = f.owns.part pass; allowed = All-weaker (λ e. (names e < c.made) × Allowed names may e) (Allowed names may) (λ _ t. t.1) v.seen (All-prefix (λ e. (names e < c.made) × Allowed names may e) v.seen c.history f.knows.prefix r.entries) };
    shown = λ noted. record { before = f.notes.earlier noted; beside = f.notes.other noted; theirs = f.notes.entries noted; mark = f.notes.frames noted };
  }

  pub looks : (x : F) (slots id : ℕ) (me : Mine E F) → IsReady me.0
      → Allows (Keeps names may x) slots id me 1 (λ n. n) (Looks names may (step slots 1 0 0 none) me)
  looks x slots id me ready s holds wide at small =
      let t = running E F names may x s id me.0 holds at ready.0 in
      let c : Setting E F = t.0 in let r = t.2 in let v : V = me.0 in
      let f = r.each id v at ready.1 in
      let n : ℕ = slice_index s.words 1 in
      let counted : n ≡ length c.history = ap (λ (l : List ℕ). slice_index l 1) r.words in
      let w : V = looked n v in
      let mine : Fit c id w = record {
        knows = record { old = f.knows.old; lock_is = f.knows.lock_is; frame_is = f.knows.frame_is; prefix = f.knows.prefix; below = omega (arith, counted) };
        turns = f.turns;
        bears = f.bears;
        counts = f.counts;
        lost = f.lost;
        owns = f.owns;
        notes = record { earlier = λ e. off e; other = λ e. off e; entries = λ e. off e; frames = λ e. off e };
      } in
      let law : Law names may c (stepped s 1 n id me.1 w keeps) = record {
        words = ap (λ (l : List ℕ). set l 1 (slice_index l 1)) r.words;
        homes = r.homes;
        bit = r.bit;
        at_home = r.at_home;
        free = r.free;
        each = each_set (Fit c) s.views id w (λ _. mine) (λ j u apart e l. r.each j u e l);
        carrier = stays s.views id c.carrier v w IsBearer at (λ q. q) r.carrier;
        holder = λ e. stays s.views id c.holder v w IsHolder at (λ q. q) (r.holder e);
        entries = r.entries;
        returned = r.returned;
        lost = r.lost;
      } in (
        w,
        keeps,
        tt,
        inr (c, t.1, law),
        (refl, told c s id v r f, omega (arith, prefix-length v.seen c.history f.knows.prefix, counted), omega (arith, f.knows.below, counted), λ b. ap length (f.bears.one b).1 ∙ sym counted),
      )

  pub recalls : (x : F) (slots id : ℕ) (me : Mine E F) → IsReady me.0
      → Allows (Keeps names may x) slots id me 0 (λ n. n) (Recalls names may (step slots 0 0 0 none) me)
  recalls x slots id me ready s holds wide at small =
      let t = running E F names may x s id me.0 holds at ready.0 in
      let c : Setting E F = t.0 in let r = t.2 in let v : V = me.0 in
      let f = r.each id v at ready.1 in
      let n : ℕ = slice_index s.words 0 in
      let w : V = recalled v in
      let mine : Fit c id w = record {
        knows = f.knows;
        turns = f.turns;
        bears = f.bears;
        counts = f.counts;
        lost = f.lost;
        owns = f.owns;
        notes = record { earlier = λ e. off e; other = λ e. off e; entries = λ e. off e; frames = λ e. off e };
      } in
      let law : Law names may c (stepped s 0 n id me.1 w keeps) = record {
        words = ap (λ (l : List ℕ). set l 0 (slice_index l 0)) r.words;
        homes = r.homes;
        bit = r.bit;
        at_home = r.at_home;
        free = r.free;
        each = each_set (Fit c) s.views id w (λ _. mine) (λ j u apart e l. r.each j u e l);
        carrier = stays s.views id c.carrier v w IsBearer at (λ q. q) r.carrier;
        holder = λ e. stays s.views id c.holder v w IsHolder at (λ q. q) (r.holder e);
        entries = r.entries;
        returned = r.returned;
        lost = r.lost;
      } in
      (w, keeps, tt, inr (c, t.1, law), (refl, told c s id v r f))

  pub adds : (x : F) (slots id : ℕ) (me : Mine E F) (es : List E) (k : ℕ) → IsReady me.0 → me.0.pass ≡ true → me.0.carries ≡ true
      → Made names may me.0.number es → k ≡ length es → length me.0.seen + length es < 2 ^ 64
      → Allows (Keeps names may x) slots id me 1 (λ n. (n + k) % 2 ^ 64) (Adds es (step slots 1 k 0 none) me)
  adds x slots id me es k ready pass carries made counts_all fits s holds wide at small =
      let t = running E F names may x s id me.0 holds at ready.0 in
      let c : Setting E F = t.0 in let r = t.2 in let v : V = me.0 in
      let f = r.each id v at ready.1 in
      let w : V = grown es v in
      let all : v.seen ≡ c.history = (f.bears.one carries).1 in
      let d : Setting E F = record c { history = c.history ++ es } in
      let sum : (length c.history + k) % 2 ^ 64 ≡ length (c.history ++ es) =
      mod-eq_of_lt (omega (arith, counts_all, fits, ap length all)) ∙ omega (arith, counts_all, length-append c.history es) in
      let named : All (λ e. names e ≡ v.number) es = All-weaker (λ e. (names e ≡ v.number) × may v.number e) (λ e. names e ≡ v.number) (λ _ m. m.0) es made in
      let new : All (λ e. (names e < c.made) × Allowed names may e) es = All-weaker (λ e. (names e ≡ v.number) × may v.number e) (λ e. (names e < c.made) × Allowed names may e)
      (λ e m. (subst (λ (n : ℕ). n < c.made) (sym m.0) (f.counts.below pass), subst (λ (n : ℕ). may n e) (sym m.0) m.1)) es made in
      let longer_history : length c.history ≤ length (c.history ++ es) = omega (arith, length-append c.history es) in
      let grow_own : (old : List E) → v.own ≡ entries_of names v.number old → v.own ++ es ≡ entries_of names v.number (old ++ es) = λ old e.
      ap (λ (l : List E). l ++ es) e ∙ sym (entries_of-append names v.number old es ∙ ap (λ (l : List E). entries_of names v.number old ++ l) (entries_of-all names v.number es named)) in
      let mine : Fit d id w = record {
        knows = record { old = f.knows.old; lock_is = f.knows.lock_is; frame_is = f.knows.frame_is; prefix = subst (λ (l : List E). IsPrefix (v.seen ++ es) (l ++ es)) all (prefix_self (v.seen ++ es)); below = omega (arith, f.knows.below, longer_history) };
        turns = f.turns;
        bears = record { one = λ b. ((f.bears.one b).0, ap (λ (l : List E). l ++ es) all); waits = f.bears.waits };
        counts = f.counts;
        lost = f.lost;
        owns = record { whole = λ p. grow_own c.history (f.owns.whole p); part = λ p. grow_own v.seen (f.owns.part p) };
        notes = record { earlier = λ e. off e; other = λ e. off e; entries = λ e. off e; frames = λ e. off e };
      } in
      let others : (j : ℕ) (u : V) → j ≢ id → Fit c j u → Fit d j u = λ j u apart g.
      let waits : u.carries ≡ true → ⊥ = others_bare E F names may c id j v u f g carries apart in
      let unnamed : u.pass ≡ true → entries_of names u.number es ≡ [] = λ p. entries_of-none names u.number es
      (All-weaker (λ e. names e ≡ v.number) (λ e. names e ≢ u.number) (λ e m same. apart (g.counts.one p ∙ ap c.seat (sym same ∙ m) ∙ sym (f.counts.one pass))) es named) in record {
        knows = record { old = g.knows.old; lock_is = g.knows.lock_is; frame_is = g.knows.frame_is; prefix = prefix_more u.seen c.history es g.knows.prefix; below = omega (arith, g.knows.below, longer_history) };
        turns = g.turns;
        bears = record { one = λ b. absurd (waits b); waits = λ b. absurd (waits b) };
        counts = g.counts;
        lost = g.lost;
        owns = record { whole = λ p. g.owns.whole p ∙ sym (entries_of-append names u.number c.history es ∙ (ap (λ (l : List E). entries_of names u.number c.history ++ l) (unnamed p) ∙ append-nil (entries_of names u.number c.history))); part = g.owns.part };
        notes = g.notes;
      } in
      let law : Law names may d (stepped s 1 ((slice_index s.words 1 + k) % 2 ^ 64) id me.1 w keeps) = record {
        words = ap (λ (l : List ℕ). set l 1 ((slice_index l 1 + k) % 2 ^ 64)) r.words ∙ ap (λ (n : ℕ). c.word ∷ n ∷ []) sum;
        homes = r.homes;
        bit = r.bit;
        at_home = r.at_home;
        free = r.free;
        each = each_set (Fit d) s.views id w (λ _. mine) (λ j u apart e l. others j u apart (r.each j u e l));
        carrier = stays s.views id c.carrier v w IsBearer at (λ q. q) r.carrier;
        holder = λ e. stays s.views id c.holder v w IsHolder at (λ q. q) (r.holder e);
        entries = All-append (λ e. (names e < c.made) × Allowed names may e) c.history es r.entries new;
        returned = r.returned;
        lost = r.lost;
      } in
      (w, keeps, tt, inr (d, t.1, law), refl)
