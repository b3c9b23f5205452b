-- A new pass is cut from the first one.
use Rattle.std.proofs.Common.{◌≡◌, ◌≢◌, ℕ, ◌+◌, ◌<◌, Bool, true, eqb, eq-eqb, ne_eqb, cond, if◌then◌else◌, List, [], ◌∷◌, ◌++◌, length, set, refl, ap, sym, subst, ◌∙◌, inr, arith}
use Rattle.std.proofs.lemmas.List.Elements.{All-weaker}
use mathlib.Core.List.{IsPrefix}
use Rattle.atomic_table.specs.Table.{Splits}
use Rattle.lasp_histlock.specs.declared.view.View.{View}
use Rattle.lasp_histlock.specs.History.{Allowed, entries_of, among}
use Rattle.lasp_histlock.specs.Views.{parent, child}
use Rattle.lasp_histlock.specs.Rule.{Setting, Fits, Law, Keeps, IsReady, IsBearer, IsHolder}
use Rattle.lasp_histlock.proofs.Prefixes.{All-prefix, prefix_self, entries_of-none, among-above}
use Rattle.lasp_histlock.proofs.Seats.{off, stays, each_set, each_new, with_new, running}

module _ (E F : Type 0) (names : E → ℕ) (may : ℕ → E → Type 0) where
  abbrev V : Type 0
  V = View E F

  abbrev Fit : Setting E F → ℕ → V → Type 0
  Fit = Fits names may

  -- the number that is given out next has its view at this place
  abbrev seated : (ℕ → ℕ) → ℕ → ℕ → ℕ → ℕ
  seated seat made place n = if eqb n made then place else seat n

  seated_old : (seat : ℕ → ℕ) (made place n : ℕ) → n < made → seated seat made place n ≡ seat n
  seated_old seat made place n below = ap (λ (b : Bool). cond b place (seat n)) (ne_eqb n made (λ e. omega (arith, e, below)))

  seated_new : (seat : ℕ → ℕ) (made place : ℕ) → seated seat made place made ≡ place
  seated_new seat made place = ap (λ (b : Bool). cond b place (seat made)) (eq-eqb made made refl)

  pub splits_pass : (x : F) (id : ℕ) (v : V) → IsReady v → v.pass ≡ true → v.number ≡ 0 → Splits (Keeps names may x) id v (parent v) (child v)
  splits_pass x id v ready pass first s holds at =
      let t = running E F names may x s id v holds at ready.0 in
      let c : Setting E F = t.0 in let r = t.2 in
      let f = r.each id v at ready.1 in
      let w : V = parent v in let a : V = child v in
      let vs : List V = set s.views id w in
      let made : v.made ≡ c.made = (f.counts.first pass first).0 in
      let positive : 0 < c.made = subst (λ (n : ℕ). n < c.made) first (f.counts.below pass) in
      let seat : ℕ → ℕ = seated c.seat c.made (length vs) in
      let d : Setting E F = record c { made = c.made + 1; seat = seat } in
      let kept : (j : ℕ) (u : V) → Fit c j u → u.pass ≡ true → j ≡ seat u.number = λ j u g p. g.counts.one p ∙ sym (seated_old c.seat c.made (length vs) u.number (g.counts.below p)) in
      let mine : Fit d id w = record {
        knows = f.knows;
        turns = f.turns;
        bears = f.bears;
        counts = record { one = λ p. kept id v f p; below = λ p. omega (arith, f.counts.below p); first = λ p z. (ap (λ (n : ℕ). n + 1) made, (f.counts.first p z).1); absent = f.counts.absent };
        lost = f.lost;
        owns = f.owns;
        notes = record { earlier = λ e. off e; other = λ e. off e; entries = λ e. off e; frames = λ e. off e };
      } in
      let others : (j : ℕ) (u : V) → j ≢ id → Fit c j u → Fit d j u = λ j u apart g. record {
        knows = g.knows;
        turns = g.turns;
        bears = g.bears;
        counts = record {
          one = λ p. kept j u g p;
          below = λ p. omega (arith, g.counts.below p);
          first = λ p z. absurd (apart (g.counts.one p ∙ ap c.seat (z ∙ sym first) ∙ sym (f.counts.one pass)));
          absent = g.counts.absent;
        };
        lost = g.lost;
        owns = g.owns;
        notes = g.notes;
      } in
      let unnamed : (l : List E) → IsPrefix l c.history → [] ≡ entries_of names v.made l = λ l p.
      let Below : E → Type 0 = λ e. (names e < c.made) × Allowed names may e in
      sym (entries_of-none names v.made l (All-weaker Below (λ e. names e ≢ v.made) (λ e m same. omega (arith, m.0, same, made)) l (All-prefix Below l c.history p r.entries))) in
      let new : Fit d (length vs) a = record {
        knows = record { old = refl; lock_is = f.knows.lock_is; frame_is = f.knows.frame_is; prefix = f.knows.prefix; below = f.knows.below };
        turns = record { one = λ e. off e; passes = λ e. off e; outs = λ e. off e; lifts = λ e. off e; full = λ e. off e; bare = λ e. off e };
        bears = record { one = λ b. off b; waits = λ b. off b };
        counts = record {
          one = λ _. sym (ap seat made ∙ seated_new c.seat c.made (length vs));
          below = λ _. omega (arith, made);
          first = λ _ z. absurd (omega (arith, z, made, positive));
          absent = λ _. ap (λ (n : ℕ). among n c.back) made ∙ among-above c.made c.back r.returned;
        };
        lost = λ _ idle one same. omega (arith, same, made, (r.lost idle one).1);
        owns = record { whole = λ _. unnamed c.history (prefix_self c.history); part = λ _. unnamed v.seen f.knows.prefix };
        notes = record { earlier = λ e. off e; other = λ e. off e; entries = λ e. off e; frames = λ e. off e };
      } in
      let law : Law names may d (record { words = s.words; homes = s.homes; views = vs ++ a ∷ [] }) = record {
        words = r.words;
        homes = r.homes;
        bit = r.bit;
        at_home = r.at_home;
        free = r.free;
        each = each_new (Fit d) vs a (λ _. new) (each_set (Fit d) s.views id w (λ _. mine) (λ j u apart e l. others j u apart (r.each j u e l)));
        carrier = with_new IsBearer vs a c.carrier (stays s.views id c.carrier v w IsBearer at (λ q. q) r.carrier);
        holder = λ e. with_new IsHolder vs a c.holder (stays s.views id c.holder v w IsHolder at (λ q. q) (r.holder e));
        entries = All-weaker (λ e. (names e < c.made) × Allowed names may e) (λ e. (names e < c.made + 1) × Allowed names may e) (λ e m. (omega (arith, m.0), m.1)) c.history r.entries;
        returned = All-weaker (λ k. (0 < k) × (k < c.made)) (λ k. (0 < k) × (k < c.made + 1)) (λ k m. (m.0, omega (arith, m.1))) c.back r.returned;
        lost = λ idle one. let q = r.lost idle one in (q.0, omega (arith, q.1), q.2);
      } in
      inr (d, t.1, law)
