-- How the parts of a turn make up the turn.
use Rattle.std.proofs.Common.{◌≡◌, ℕ, ◌≤◌, Bool, true, false, List, [], ◌∷◌, ◌++◌, length, take, Some, Result, Ok, Err, refl, sym, ap, subst, ◌∙◌, append-nil, append_assoc, length-append, arith, ◌<◌}
use Rattle.std.specs.Prelude.{OnOk, OnErr, IfOk, IfSome, IfNone, IsTrue, Option, None, ltb, if◌then◌else◌}
use Rattle.std.specs.List.{AllByRecursion}
use Rattle.std.proofs.lemmas.List.Elements.{All-nil, All-cons}
use Rattle.model_journal.specs.Entry.{Bind, Entry, Frame, entry}
use Rattle.model_journal.specs.Callers.{MayMake}
use Rattle.model_journal.specs.Journal.{graph}
use Rattle.model_graph.specs.Graph.{kind_at}
use Rattle.model_journal.specs.Legal.{IsLegal}
use Rattle.model_core.specs.Core.{Core, IsCore, Read, is_met, entered, released}
use Rattle.model_core.proofs.CoreLaws.{released-met}
use Rattle.model_core.proofs.BaseLaws.{take-first, graph-longer, kind-later}
use Rattle.lasp_histlock.specs.Names.{LockId}
use Rattle.lasp_histlock.specs.History.{added, longer}
use Rattle.lasp_histlock.specs.Passes.{after_miss, after_give, after_rejoin}
use Rattle.lasp_replica.specs.declared.job.Job.{Job}
use Rattle.model_states.specs.Threshold.{Threshold, suits}
use Rattle.model_graph.specs.Lawful.{shape_of}
use Rattle.lasp_core.specs.Reads.{read_of}
use Rattle.lasp_core.specs.declared.read.ReadNo.{ReadNo}
use Rattle.lasp_core.specs.Core.{rows_of, taken, returned, IsOpen}
use Rattle.lasp_core.specs.Listed.{GoesOn}
use Rattle.lasp_core.specs.Watched.{IsBusy}
use Rattle.lasp_core.specs.declared.watched.Try.{Try}
use Rattle.lasp_core.specs.declared.watched.Try.TheVariants.{Busy, Refused}
use Rattle.lasp_store.specs.Tried.{IfRefused}
use Rattle.lasp_store.specs.Turn.{Knows, frame_in, frame_of, graph_seen, looked_at, after_end, after_turn, HadTurn, TriedTurn, IsStill, IsSeated, IsInTurn, HasBegun, HasTried, MayEnd, HasGiven, HasEnded}

-- ---- answers by cases

pub on-ok : {A E P Q : Type 0} (r : Result A E) → (P → Q) → OnOk r P → OnOk r Q
on-ok (Ok a) f p = f p
on-ok (Err e) f p = tt

pub on-err : {A E P Q : Type 0} (r : Result A E) → (P → Q) → OnErr r P → OnErr r Q
on-err (Ok a) f p = tt
on-err (Err e) f p = f p

-- in either case
pub either-way : {A E P : Type 0} (r : Result A E) → OnOk r P → OnErr r P → P
either-way (Ok a) p q = p
either-way (Err e) p q = q

-- ---- a whole turn

pub had_turn : (store : LockId) (old p new : Knows) (c : Core) (more : List Entry) → HasBegun store old p c → HasEnded more p new → HadTurn more old new
had_turn store old p new c more b e = record {
  goes_on = subst (λ (l : List Entry). GoesOn old.seen l) (sym same) b.goes_on;
  pass = e.pass ∙ ap (after_end more) b.pass ∙ (λ i. after_turn (sym missed i) (sym same i) more old);
  misses = subst (λ (n : ℕ). old.misses ≤ n) (sym missed) b.misses;
  told = subst (λ (n : ℕ). old.told ≤ n) (sym (ap (λ (q : Knows). q.told) e.pass)) b.told;
  framed = e.framed;
  legal = e.legal;
} where
  same : looked_at new ≡ c.entries
  same = e.list ∙ b.turn.seen

  missed : new.misses ≡ p.misses
  missed = ap (λ (q : Knows). q.misses) e.pass

pub tried_turn : (store : LockId) (old p new : Knows) (c : Core) (more : List Entry) → HasTried store old p c → HasEnded more p new → TriedTurn more old new
tried_turn store old p new c more t e = record {
  turn = had_turn store old p new c more t.begun e;
  unmissed = ap (λ (q : Knows). q.misses) e.pass ∙ t.unmissed;
}

-- the core that is lent out of the box is the one that was taken
pub in-turn : (store : LockId) (p : Knows) (c k : Core) → k ≡ c → IsInTurn store p c → IsInTurn store p k
in-turn store p c k same t = subst (λ (x : Core). IsInTurn store p x) (sym same) t

pub core-same : (c k : Core) → k ≡ c → IsCore c → IsCore k
core-same c k same is = subst (λ (x : Core). IsCore x) (sym same) is

-- ---- the end of a turn

drop-first : (h more : List Entry) → added h (h ++ more) ≡ more
drop-first [] more = refl
drop-first (e ∷ h) more = drop-first h more

-- what stands in the core behind the entries that it was taken with was added
pub ended : (p new : Knows) (d : Core) (more : List Entry) → HasGiven d p new → d.entries ≡ p.seen ++ more → HasEnded more p new
ended p new d more g entries = record {
  pass = g.pass ∙ ap (λ (l : List Entry). after_give l p) entries ∙ (λ i. record p { turn = false; seen = p.seen ++ more; own = p.own ++ drop-first p.seen more i });
  list = g.list;
  framed = g.framed;
  legal = g.legal;
}

pub ended-still : (p new : Knows) (d : Core) → HasGiven d p new → d.entries ≡ p.seen → HasEnded [] p new
ended-still p new d g entries = ended p new d [] g (entries ∙ sym (append-nil p.seen))

-- a turn may end with the core as it was, but for what isn't told of it
pub may-still : (store : LockId) (p : Knows) (c d : Core) → IsInTurn store p c → IsCore d → d.frame ≡ c.frame → d.entries ≡ c.entries → MayEnd store p d
may-still store p c d t core frame entries = record {
  lock = t.lock;
  turn = t.turn;
  told = t.told ∙ ap (λ (l : List Entry). length l) (sym t.seen);
  more = [];
  entries = entries ∙ sym t.seen ∙ sym (append-nil p.seen);
  may = All-nil (λ e. (e.by ≡ p.number) × MayMake p.number e.act);
  frame = t.frame ∙ ap (λ (X : Frame). Some X) (sym frame);
  legal = core.legal;
}

-- the core has one entry more
pub record IsAdded (e : Entry) (c d : Core) : Type 0 where
  pub frame : d.frame ≡ c.frame
  pub entries : d.entries ≡ c.entries ++ e ∷ []

pub may-one : (store : LockId) (p : Knows) (c d : Core) (e : Entry) → IsInTurn store p c → IsCore d → e.by ≡ p.number → MayMake p.number e.act → IsAdded e c d → MayEnd store p d
may-one store p c d e t core mine may is = record {
  lock = t.lock;
  turn = t.turn;
  told = t.told ∙ ap (λ (l : List Entry). length l) (sym t.seen);
  more = e ∷ [];
  entries = is.entries ∙ ap (λ (l : List Entry). l ++ e ∷ []) (sym t.seen);
  may = All-cons (λ f. (f.by ≡ p.number) × MayMake p.number f.act) e [] (mine, may) (All-nil (λ f. (f.by ≡ p.number) × MayMake p.number f.act));
  frame = t.frame ∙ ap (λ (X : Frame). Some X) (sym is.frame);
  legal = core.legal;
}

-- a call that adds an entry, or is refused
pub may-add : {A E : Type 0} (store : LockId) (p : Knows) (c d : Core) (e : Entry) (r : Result A E) → IsInTurn store p c → IsCore d → e.by ≡ p.number → MayMake p.number e.act → OnOk r (IsAdded e c d) → OnErr r (d ≡ c) → MayEnd store p d
may-add store p c d e r t core mine may ok err =
    either-way r (on-ok r (may-one store p c d e t core mine may) ok)
    (on-err r (λ same. may-still store p c d t core (ap (λ (x : Core). x.frame) same) (ap (λ (x : Core). x.entries) same)) err)

pub ended-one : (store : LockId) (p new : Knows) (c d : Core) (e : Entry) → IsInTurn store p c → HasGiven d p new → IsAdded e c d → HasEnded (e ∷ []) p new
ended-one store p new c d e t g is = ended p new d (e ∷ []) g (is.entries ∙ ap (λ (l : List Entry). l ++ e ∷ []) (sym t.seen))

pub ended-same : (store : LockId) (p new : Knows) (c d : Core) → IsInTurn store p c → HasGiven d p new → d.entries ≡ c.entries → HasEnded [] p new
ended-same store p new c d t g same = ended-still p new d g (same ∙ sym t.seen)

-- what was answered at the core as it was taken is answered at what the pass looked at
pub at-looked : (P : Frame → List Entry → Type 0) (store : LockId) (p new : Knows) (c d : Core) → IsInTurn store p c → HasGiven d p new → d.frame ≡ c.frame → P c.frame c.entries → P (frame_of new) (looked_at new)
at-looked P store p new c d t g frame holds = subst (λ (z : Frame × List Entry). P z.0 z.1) (λ i. (sym (g.frame ∙ frame) i, sym (g.list ∙ t.seen) i)) holds

-- what holds of the core that was given back holds of what the pass has seen
pub at-seen : (P : Frame → List Entry → Type 0) (p new : Knows) (d : Core) → HasGiven d p new → P d.frame d.entries → P (frame_of new) new.seen
at-seen P p new d g holds = subst (λ (z : Frame × List Entry). P z.0 z.1) (λ i. (sym g.frame i, sym g.seen i)) holds

-- ---- the steps of the lock

pub given : (store : LockId) (p new : Knows) (d : Core) → MayEnd store p d → new ≡ after_give d.entries p → HasGiven d p new
given store p new d m is = record {
  pass = is;
  list = ap (λ (q : Knows). take q.told q.seen) is ∙ (λ i. take (m.told i) (m.entries i)) ∙ take-first p.seen m.more;
  seen = ap (λ (q : Knows). q.seen) is;
  frame = ap frame_in there;
  framed = there ∙ ap (λ (X : Frame). Some X) (sym (ap frame_in there));
  legal = subst (λ (z : Frame × List Entry). IsLegal z.0 z.1) (λ i. (sym (ap frame_in there) i, sym (ap (λ (q : Knows). q.seen) is) i)) m.legal;
} where
  there : new.frame ≡ Some d.frame
  there = ap (λ (q : Knows). q.frame) is ∙ m.frame

-- ---- what a turn leaves

pub turn-frame : (more : List Entry) (old new : Knows) → HadTurn more old new → frame_of new ≡ frame_of old
turn-frame more old new t = ap (λ (p : Knows). frame_of p) t.pass

pub turn-seen : (more : List Entry) (old new : Knows) → HadTurn more old new → GoesOn old.seen new.seen
turn-seen more old new t = (t.goes_on.0 ++ more, ap (λ (p : Knows). p.seen) t.pass ∙ ap (λ (l : List Entry). l ++ more) t.goes_on.1 ∙ append_assoc old.seen t.goes_on.0 more)

pub turn-declared : (more : List Entry) (old new : Knows) → HadTurn more old new → length (graph_seen old) ≤ length (graph_seen new)
turn-declared more old new t =
    let on = turn-seen more old new t in
    subst (λ (z : Frame × List Entry). length (graph_seen old) ≤ length (graph z.0 z.1)) (λ i. (sym (turn-frame more old new t) i, sym on.1 i)) (graph-longer (frame_of old) old.seen on.0)

pub turn-kind : (more : List Entry) (old new : Knows) → HadTurn more old new → (x : ℕ) → x < length (graph_seen old) → kind_at (graph_seen new) x ≡ kind_at (graph_seen old) x
turn-kind more old new t x low =
    let on = turn-seen more old new t in
    (λ i. kind_at (graph (turn-frame more old new t i) (on.1 i)) x) ∙ kind-later (frame_of old) old.seen on.0 x low

pub turn-seated : (store : LockId) (old new : Knows) (more : List Entry) → old.lock ≡ store → HadTurn more old new → IsSeated store new
turn-seated store old new more lock t = record {
  lock = ap (λ (p : Knows). p.lock) t.pass ∙ lock;
  idle = ap (λ (p : Knows). p.turn) t.pass;
  framed = t.framed;
  legal = t.legal;
}

-- the longer of two lists is one of them
longer-either : (P : List Entry → Type 0) (a b : List Entry) → P a → P b → P (longer a b)
longer-either P a b p q = choose (ltb (length a) (length b)) where
  choose : (is : Bool) → P (if is then b else a)
  choose true = q
  choose false = p

-- a pass that takes another one back stays free, and knows a legal list where both do
pub rejoined-seated : (store : LockId) (old new hand : Knows) → new ≡ after_rejoin hand old → hand.frame ≡ old.frame → IsSeated store old → IsSeated store hand → IsSeated store new
rejoined-seated store old new hand is same old-free hand-free =
    subst (λ (p : Knows). IsSeated store p) (sym is) (record {
      lock = old-free.lock;
      idle = old-free.idle;
      framed = old-free.framed;
      legal = longer-either (λ (l : List Entry). IsLegal (frame_of old) l) old.seen hand.seen old-free.legal (subst (λ (X : Frame). IsLegal X hand.seen) (ap frame_in same) hand-free.legal);
    })

pub ruleset turns = (turn-frame, turn-seen, turn-declared, turn-kind, turn-seated)

-- ---- what calls of the core leave

-- each read that an entry releases is met where the call leaves the core
pub entered-met : {E : Type 0} (c new : Core) (e : Entry) → IsCore c → (result : Result (List Read) E) → OnOk result (new ≡ entered e c) → IfOk result (λ reads. reads ≡ released e c)
    → IfOk result (λ reads. AllByRecursion (λ r. IsTrue (is_met new.frame new.entries r)) reads)
entered-met c new e core (Ok reads) ok out =
    subst (λ (s : Core). AllByRecursion (λ r. IsTrue (is_met s.frame s.entries r)) reads) (sym ok)
    (subst (λ (rs : List Read). AllByRecursion (λ r. IsTrue (is_met c.frame (c.entries ++ e ∷ []) r)) rs) (sym out) (released-met c e core))
entered-met c new e core (Err why) ok out = tt

pub still-same : (c d : Core) → d ≡ c → IsStill c d
still-same c d same = record { frame = ap (λ (x : Core). x.frame) same; entries = ap (λ (x : Core). x.entries) same }

pub still-taken : (c d : Core) (y rows : ℕ) → d ≡ taken y rows c → IsStill c d
still-taken c d y rows is = record { frame = ap (λ (x : Core). x.frame) is; entries = ap (λ (x : Core). x.entries) is }

-- a core of which a job was taken, or none
pub still-take : {E : Type 0} (c d : Core) (r : Result (Option Job) E) → IfOk r (λ found. IfNone found (d ≡ c)) → IfOk r (λ found. IfSome found (λ job. d ≡ taken job.var (rows_of job) c)) → OnErr r (d ≡ c) → IsStill c d
still-take c d (Ok None) same is err = still-same c d same
still-take c d (Ok (Some job)) same is err = still-taken c d job.var (rows_of job) is
still-take c d (Err why) same is err = still-same c d err

-- ---- what stays in a turn

-- an earlier point of what a pass has seen stays one
pub early-later : (since : Option ℕ) (old new : List Entry) → GoesOn old new → IfSome since (λ n. n ≤ length old) → IfSome since (λ n. n ≤ length new)
early-later None old new on early = tt
early-later (Some n) old new on early = omega (arith, early, ap (λ (l : List Entry). length l) on.1, length-append old on.0)

-- what stays where the entries go on stands at the core that was taken out
pub begun-at : (P : Frame → List Entry → Type 0) (store : LockId) (old p : Knows) (c : Core) → HasBegun store old p c → ((more : List Entry) → P (frame_of old) (old.seen ++ more)) → P (frame_of p) p.seen
begun-at P store old p c b stays = subst (λ (z : Frame × List Entry). P z.0 z.1) (λ i. (sym (ap (λ (q : Knows). frame_of q) b.pass) i, sym (b.turn.seen ∙ b.goes_on.1) i)) (stays b.goes_on.0)

-- and behind the turn
pub turn-at : (P : Frame → List Entry → Type 0) (more : List Entry) (old new : Knows) → HadTurn more old new → ((rest : List Entry) → P (frame_of old) (old.seen ++ rest)) → P (frame_of new) new.seen
turn-at P more old new t stays = subst (λ (z : Frame × List Entry). P z.0 z.1) (λ i. (sym (turn-frame more old new t) i, sym (turn-seen more old new t).1 i)) (stays (turn-seen more old new t).0)

-- a read may be polled whatever its number is
pub read-open : {E : Type 0} (r : Result ReadNo E) (X : Frame) (h : List Entry) (x : ℕ) (t : Threshold) → IsOpen X h (record { number = 0; var = x; threshold = t })
    → IfOk r (λ read. ((read_of read).var ≡ x) × ((read_of read).threshold ≡ t)) → IfOk r (λ read. IsOpen X h (read_of read))
read-open (Ok read) X h x t may is = record {
  declared = subst (λ (y : ℕ). y < length (graph X h)) (sym is.0) may.declared;
  suits_it = subst (λ (z : ℕ × Threshold). IsTrue (suits z.1 (shape_of X.nodes (kind_at (graph X h) z.0)))) (λ i. (sym is.0 i, sym is.1 i)) may.suits_it;
}
read-open (Err why) X h x t may is = tt

-- a core that took in a result under this number
pub added-bound : (c d : Core) (m k y n : ℕ) → m ≡ k → d ≡ returned y (entered (entry m (Bind y n)) c) → IsAdded (entry k (Bind y n)) c d
added-bound c d m k y n same is = record {
  frame = ap (λ (x : Core). x.frame) is;
  entries = ap (λ (x : Core). x.entries) is ∙ (λ i. c.entries ++ entry (same i) (Bind y n) ∷ []);
}

-- what stays where the entries go on stands behind a call that tries once
pub tried-at : {A E : Type 0} (P : Frame → List Entry → Type 0) (old new : Knows) (r : Result A (Try E)) → (IsBusy r → new ≡ after_miss old) → OnOk r (TriedTurn [] old new) → IfRefused r (λ why. TriedTurn [] old new)
    → P (frame_of old) old.seen → ((rest : List Entry) → P (frame_of old) (old.seen ++ rest)) → P (frame_of new) new.seen
tried-at P old new (Ok a) busy ok refused at stays = turn-at P [] old new ok.turn stays
tried-at P old new (Err Busy) busy ok refused at stays = subst (λ (p : Knows). P (frame_of p) p.seen) (sym (busy tt)) at
tried-at P old new (Err (Refused why)) busy ok refused at stays = turn-at P [] old new refused.turn stays
