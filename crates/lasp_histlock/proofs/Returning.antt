-- A pass comes back to the first one.
use Rattle.std.proofs.Common.{◌≡◌, ◌≢◌, ℕ, ◌<◌, Bool, true, false, ◌||◌, if◌then◌else◌, List, [], ◌∷◌, ◌++◌, All, set, refl, ap, sym, subst, ◌∙◌, inr, arith}
use Rattle.std.proofs.lemmas.Bool.{cond_both, or_left, or_right}
use Rattle.std.proofs.lemmas.List.Elements.{All-push}
use mathlib.Core.Option.{some, some-injective}
use lib.ListN.{get_elem?}
use Rattle.atomic_table.specs.Table.{Joins}
use Rattle.atomic_table.proofs.Lists.{set_else}
use Rattle.lasp_histlock.specs.declared.view.View.{View}
use Rattle.lasp_histlock.specs.History.{among, longer}
use Rattle.lasp_histlock.specs.Views.{merged, nobody}
use Rattle.lasp_histlock.specs.Rule.{Setting, Fits, Law, Keeps, Lock, IsReady, IsBearer, IsHolder, IsNotLost}
use Rattle.lasp_histlock.proofs.Prefixes.{longer_whole, longer_left, longer_right, longer_first, longer_second, entries_of-between, among-append}
use Rattle.lasp_histlock.proofs.Seats.{off, on, at_here, stays, stays_apart, each_joined, others_wait, others_bare, running}

module _ (E F : Type 0) (names : E → ℕ) (may : ℕ → E → Type 0) where
  abbrev V : Type 0
  V = View E F

  abbrev Fit : Setting E F → ℕ → V → Type 0
  Fit = Fits names may

  or_false : (b : Bool) → (b || false) ≡ true → b ≡ true
  or_false true e = refl
  or_false false e = e

  -- in what setting a pass w that comes back to seat id leaves the lock
  abbrev returned_to : Setting E F → ℕ → V → Setting E F
  returned_to c id w = record c {
    held = if w.turn then false else c.held;
    lost = if w.turn then w.number else c.lost;
    back = if w.turn then c.back else c.back ++ w.number ∷ [];
    carrier = if w.carries then id else c.carrier;
  }

  module _ (c : Setting E F) (s : Lock E F) (r : Law names may c s) (id other : ℕ) (v w : V) (f : Fit c id v) (g : Fit c other w)
      (apart : other ≢ id) (pass : v.pass ≡ true) (first : v.number ≡ 0) (is_pass : w.pass ≡ true) where
    abbrev d : Setting E F
    d = returned_to c id w

    -- another pass has another number
    differs : (j : ℕ) (u : V) → Fit c j u → u.pass ≡ true → j ≢ other → u.number ≢ w.number
    differs j u h p not_it same = not_it (h.counts.one p ∙ ap c.seat same ∙ sym (g.counts.one is_pass))

    positive : 0 < w.number
    positive = let zero_not : w.number ≢ 0 = λ z. apart (g.counts.one is_pass ∙ ap c.seat (z ∙ sym first) ∙ sym (f.counts.one pass)) in omega (arith, zero_not)

    still_absent : (n : ℕ) → among n c.back ≡ false → n ≢ w.number → among n d.back ≡ false
    still_absent n absent ne = cond_both w.turn c.back (c.back ++ w.number ∷ []) (λ l. among n l ≡ false) (λ _. absent) (λ _. among-append n w.number c.back absent ne)

    still_idle : c.held ≡ false → d.held ≡ false
    still_idle idle = cond_both w.turn false c.held (λ b. b ≡ false) (λ _. refl) (λ _. idle)

    still_held : c.held ≡ true → (w.turn ≡ true → ⊥) → d.held ≡ true
    still_held held waits = cond_both w.turn false c.held (λ b. b ≡ true) (λ e. absurd (waits e)) (λ _. held)

    not_lost : (j : ℕ) (u : V) → Fit c j u → j ≢ other → IsNotLost d.word d.held d.lost u.pass u.number
    not_lost j u h not_it p = by w.turn refl
      where
        by : (b : Bool) → w.turn ≡ b → (if b then false else c.held) ≡ false → c.word ≡ 1 → u.number ≢ (if b then w.number else c.lost)
        by true e idle one = differs j u h p not_it
        by false e idle one = h.lost p idle one

    fits_merged : Fit d id (merged v w)
    fits_merged =
        let seen = v.seen in let theirs = w.seen in
        let p = f.knows.prefix in let q = g.knows.prefix in
        let whole = longer_whole seen theirs c.history p q in
        let left = longer_left seen theirs c.history p q in let right = longer_right seen theirs c.history p q in
        let b : List E = longer seen theirs in record {
          knows = record { old = f.knows.old; lock_is = f.knows.lock_is; frame_is = f.knows.frame_is; prefix = whole; below = f.knows.below };
          turns = record {
            one = λ e. let t = f.turns.one e in (t.0, still_held t.1 (λ turn. others_wait E F names may c other id w v g f turn (λ same. apart (sym same)) e), t.2);
            passes = f.turns.passes;
            outs = f.turns.outs;
            lifts = f.turns.lifts;
            full = f.turns.full;
            bare = f.turns.bare;
          };
          bears = record { one = carried w.carries refl; waits = waits w.turn refl w.carries refl };
          counts = record {
            one = f.counts.one;
            below = f.counts.below;
            first = λ e z. let t = f.counts.first e z in (t.0, ap (λ (l : List ℕ). if w.turn then l else l ++ w.number ∷ []) t.1);
            absent = λ e. still_absent v.number (f.counts.absent e) (differs id v f e (λ same. apart (sym same)));
          };
          lost = not_lost id v f (λ same. apart (sym same));
          owns = record { whole = f.owns.whole; part = λ e. f.owns.part e ∙ entries_of-between names v.number seen b c.history left whole (sym (f.owns.part e) ∙ f.owns.whole e) };
          notes = record {
            earlier = λ _. left;
            other = λ _. right;
            entries = λ _. g.owns.part is_pass ∙ entries_of-between names w.number theirs b c.history right whole (sym (g.owns.part is_pass) ∙ g.owns.whole is_pass);
            frames = λ _. g.knows.frame_is ∙ sym f.knows.frame_is;
          };
        }
      where
        carried : (k : Bool) → w.carries ≡ k → (v.carries || k) ≡ true → (id ≡ (if k then id else c.carrier)) × (longer v.seen w.seen ≡ c.history)
        carried true e both = (refl, longer_second v.seen w.seen c.history f.knows.prefix g.knows.prefix (g.bears.one e).1)
        carried false e both = let t = f.bears.one (or_false v.carries both) in (t.0, longer_first v.seen w.seen c.history f.knows.prefix g.knows.prefix t.1)

        waits : (t : Bool) → w.turn ≡ t → (k : Bool) → w.carries ≡ k → (v.carries || k) ≡ true → v.pass ≡ true → v.turn ≡ false → ((if t then false else c.held) ≡ false) × (c.word ≡ 1)
        waits true e k ek both p idle = (refl, (g.turns.one e).2)
        waits false e true ek both p idle = g.bears.waits ek is_pass e
        waits false e false ek both p idle = f.bears.waits (or_false v.carries both) p idle

    fits_other : (j : ℕ) (u : V) → j ≢ id → j ≢ other → Fit c j u → Fit d j u
    fits_other j u not_me not_it h = record {
      knows = h.knows;
      turns = record {
        one = λ e. let t = h.turns.one e in (t.0, still_held t.1 (λ turn. others_wait E F names may c other j w u g h turn not_it e), t.2);
        passes = h.turns.passes;
        outs = h.turns.outs;
        lifts = h.turns.lifts;
        full = h.turns.full;
        bare = h.turns.bare;
      };
      bears = record {
        one = λ b. let t = h.bears.one b in
            (cond_both w.carries id c.carrier (λ k. j ≡ k) (λ e. absurd (others_bare E F names may c other j w u g h e not_it b)) (λ _. t.0), t.1);
        waits = λ b p idle. let t = h.bears.waits b p idle in (still_idle t.0, t.1);
      };
      counts = record {
        one = h.counts.one;
        below = h.counts.below;
        first = λ p z. absurd (not_me (h.counts.one p ∙ ap c.seat (z ∙ sym first) ∙ sym (f.counts.one pass)));
        absent = λ p. still_absent u.number (h.counts.absent p) (differs j u h p not_it);
      };
      lost = not_lost j u h not_it;
      owns = h.owns;
      notes = h.notes;
    }

    -- a view that isn't w stands where it stood, with what v keeps
    kept : (Q : V → Type 0) (k : ℕ) → get_elem? s.views id ≡ some v → get_elem? s.views other ≡ some w → (Q v → Q (merged v w)) → (Q w → ⊥)
        → (u : V) × (get_elem? s.views k ≡ some u) × Q u → (u : V) × (get_elem? (set (set s.views id (merged v w)) other nobody) k ≡ some u) × Q u
    kept Q k at there keep not_it t =
        let away : k ≢ other = λ same.
        let is : t.0 ≡ w = some-injective t.0 w (sym t.1 ∙ (ap (get_elem? s.views) same ∙ there)) in not_it (subst Q is t.2) in
        stays_apart (set s.views id (merged v w)) other k nobody Q away (stays s.views id k v (merged v w) Q at keep t)

    law_merged : get_elem? s.views id ≡ some v → get_elem? s.views other ≡ some w → IsReady v
        → Law names may d (record { words = s.words; homes = s.homes; views = set (set s.views id (merged v w)) other nobody })
    law_merged at there ready =
        let m : V = merged v w in
        let vs : List V = set (set s.views id m) other nobody in
        let here : get_elem? vs id ≡ some m = set_else (set s.views id m) other id nobody (λ e. apart (sym e)) ∙ at_here s.views id v m at in record {
          words = r.words;
          homes = r.homes;
          bit = r.bit;
          at_home = r.at_home;
          free = λ e. let t = r.free e in (still_idle t.0, t.1);
          each = each_joined (Fit d) s.views id m other (λ _. fits_merged) (λ j u not_me not_it e l. fits_other j u not_me not_it (r.each j u e l));
          carrier = bearer at there ready here w.carries refl;
          holder = holding at there w.turn refl;
          entries = r.entries;
          returned = cond_both w.turn c.back (c.back ++ w.number ∷ []) (All (λ k. (0 < k) × (k < c.made))) (λ _. r.returned) (λ _. All-push (λ k. (0 < k) × (k < c.made)) c.back w.number r.returned (positive, g.counts.below is_pass));
          lost = gone w.turn refl;
        }
      where
        bearer : get_elem? s.views id ≡ some v → get_elem? s.views other ≡ some w → IsReady v → get_elem? (set (set s.views id (merged v w)) other nobody) id ≡ some (merged v w)
            → (k : Bool) → w.carries ≡ k
            → (u : V) × (get_elem? (set (set s.views id (merged v w)) other nobody) (if k then id else c.carrier) ≡ some u) × IsBearer u
        bearer at there ready here true e = (merged v w, here, (ready.1, or_right v.carries w.carries e))
        bearer at there ready here false e = kept IsBearer c.carrier at there (λ b. (b.0, or_left v.carries w.carries b.1)) (λ b. on (sym b.1 ∙ e)) r.carrier

        holding : get_elem? s.views id ≡ some v → get_elem? s.views other ≡ some w → (t : Bool) → w.turn ≡ t → (if t then false else c.held) ≡ true
            → (u : V) × (get_elem? (set (set s.views id (merged v w)) other nobody) c.holder ≡ some u) × IsHolder u
        holding at there true e held = off held
        holding at there false e held = kept IsHolder c.holder at there (λ h. h) (λ h. on (sym h.1 ∙ e)) (r.holder held)

        gone : (t : Bool) → w.turn ≡ t → (if t then false else c.held) ≡ false → c.word ≡ 1
            → (0 < (if t then w.number else c.lost)) × ((if t then w.number else c.lost) < c.made) × (among (if t then w.number else c.lost) (if t then c.back else c.back ++ w.number ∷ []) ≡ false)
        gone true e idle one = (positive, g.counts.below is_pass, g.counts.absent is_pass)
        gone false e idle one = let t = r.lost idle one in (t.0, t.1, among-append c.lost w.number c.back t.2 (λ same. g.lost is_pass idle one (sym same)))

  pub joins_pass : (x : F) (id : ℕ) (v : V) (other : ℕ) (w : V) → IsReady v → v.pass ≡ true → v.number ≡ 0 → IsReady w → w.pass ≡ true
      → Joins (Keeps names may x) id v other w (merged v w) nobody
  joins_pass x id v other w ready pass first ready_other is_pass s holds at apart there =
      let t = running E F names may x s id v holds at ready.0 in
      let c : Setting E F = t.0 in let r = t.2 in
      let there' : get_elem? s.views other ≡ some w = sym (set_else s.views id other (merged v w) apart) ∙ there in
      let f = r.each id v at ready.1 in let g = r.each other w there' ready_other.1 in
      inr (returned_to c id w, t.1, law_merged c s r id other v w f g apart pass first is_pass at there' ready)
