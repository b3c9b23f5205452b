-- A run stays sound, act by act.
use Rattle.std.proofs.Common.{◌≡◌, ℕ, ◌+◌, ◌≤◌, ◌<◌, ◌⊎◌, inl, inr, Bool, true, false, if◌then◌else◌, nat_lt, ◌==◌, IsTrue, List, [], ◌∷◌, ◌++◌, length, map, Option, Some, None, Result, Ok, Err, slice_index_or, refl, sym, ap, subst, ◌∙◌, arith}
use Rattle.std.proofs.lemmas.Bool.Decides.{nat_tests}
use Rattle.model_states.specs.Content.{size_of, row_limit}
use Rattle.model_states.specs.Threshold.{Shape, set, grow, counter, register, fold, is_shape, suits}
use Rattle.model_states.specs.Update.{Op, Join}
use Rattle.model_graph.specs.Evaluation.{content_at, first_large}
use Rattle.model_graph.specs.Graph.{Kind, Decl, is_source, kind_at}
use Rattle.model_graph.specs.Lawful.{shape_of}
use Rattle.model_graph.proofs.PlaceLaws.{below-or-not, at-append, at-last, at-set, at-map-low, at-replicate, length-replicate, length-push, map-length, set-length}
use Rattle.model_graph.specs.Message.{Message}
use Rattle.model_world.proofs.VariableLaws.{kind-append}
use Rattle.model_wire.specs.Lawful.{IsSource}
use Rattle.model_world.specs.Command as command
use Rattle.model_world.specs.Command.{Until, Mark, Send, Declare}
use Rattle.model_world.specs.Lawful.{Stage, opening_stage, stage_after, IsMarkOf, MayAsk}
use Rattle.model_world.specs.declared.stop.Stop.{Stop}
use Rattle.model_world.specs.declared.stop.Stop.TheVariants.{TooLarge, NetworkFull, NotReached}
use Rattle.model_world.specs.World.{Peer, Marked, Opened, Run, Update, Keep, Post, Take, Point, Show, Open, Reach, Extend, fresh_peer, no_peer, peer_at, start, updated, delivered, extended, message_at, no_message, sent_number, network_size, network_limit, no_mark, mark_at, threshold_of, with_peer, checked_update, stop_from, checked_delivery, checked_send, with_mark, with_read, with_decl, act}
use Rattle.model_world.proofs.StopLaws.{point-same}
use Rattle.model_runs.specs.Held.{AreBelow, IsHeld, IsSentTo, IsUpdate}
use Rattle.model_runs.specs.Sound.{IsMarked, IsOpened, no_read, read_at, IsSound}
use Rattle.model_runs.proofs.EachLaws.{below-at, below-later}
use Rattle.model_runs.proofs.HeldLaws.{held-fresh, below-fresh, held-updated, below-updated, held-delivered, below-delivered, held-extended, sent-extended, held-sent}

-- ---- what an act that could be done leads to

same-run : (next run : Run) → next ≡ run → (P : Run → Type 0) → P run → P next
same-run next run e P h = subst P (sym e) h

updated-run : (c p x : ℕ) (run next : Run) (r : Peer) → checked_update c p x run r ≡ Ok next → (next ≡ with_peer run p r) × (size_of (content_at r.contents x) ≤ row_limit)
updated-run c p x run next r e = choose (nat_lt row_limit (size_of (content_at r.contents x))) refl e where
  choose : (b : Bool) → nat_lt row_limit (size_of (content_at r.contents x)) ≡ b → (if b then Err (TooLarge c p x) else Ok (with_peer run p r)) ≡ Ok next
      → (next ≡ with_peer run p r) × (size_of (content_at r.contents x) ≤ row_limit)
  choose true t h = absurd cc
  choose false t h = (cc, grind (arith, nat_tests, t))

delivered-run : (c p : ℕ) (run next : Run) (r : Peer) → checked_delivery c p run r ≡ Ok next → (next ≡ with_peer run p r) × (first_large 0 r.contents ≡ None)
delivered-run c p run next r e = choose (first_large 0 r.contents) refl e where
  choose : (o : Option ℕ) → first_large 0 r.contents ≡ o → stop_from o c p (Ok (with_peer run p r)) ≡ Ok next → (next ≡ with_peer run p r) × (first_large 0 r.contents ≡ None)
  choose None t h = (cc, t)
  choose (Some x) t h = absurd cc

-- the run with these messages
abbrev with_sent : Run → List Message → Run
with_sent run sent = record { graph = run.graph; peers = run.peers; sent = sent; marks = run.marks; reads = run.reads; text = run.text }

sent-run : (c : ℕ) (run next : Run) (sent : List Message) → checked_send c run sent ≡ Ok next → next ≡ with_sent run sent
sent-run c run next sent e = choose (nat_lt network_limit (network_size sent)) e where
  choose : (b : Bool) → (if b then Err (NetworkFull c) else Ok (with_sent run sent)) ≡ Ok next → next ≡ with_sent run sent
  choose true h = absurd cc
  choose false h = cc

ok-same : (run next : Run) → ◌≡◌ {A = Result Run Stop} (Ok run) (Ok next) → next ≡ run
ok-same run next e = cc

-- ---- places of longer lists

-- each place of a list with one more is an earlier one or the last
each-push : {A : Type 0} (P : ℕ → A → Type 0) (xs : List A) (y d : A) → ((i : ℕ) → i < length xs → P i (slice_index_or xs i d)) → P (length xs) y → (i : ℕ) → i < length (xs ++ y ∷ []) → P i (slice_index_or (xs ++ y ∷ []) i d)
each-push P xs y d old new i low = choose (below-or-not i (length xs)) where
  choose : (i < length xs) ⊎ (length xs ≤ i) → P i (slice_index_or (xs ++ y ∷ []) i d)
  choose (inl h) = subst (P i) (sym (at-append xs (y ∷ []) i d h)) (old i h)
  choose (inr h) =
      let here : length xs ≡ i = omega (arith, h, low, length-push xs y) in
      subst (λ (n : ℕ). P n (slice_index_or (xs ++ y ∷ []) n d)) here (subst (P (length xs)) (sym (at-last xs y d)) new)

-- ---- the beginning

pub sound-start : (nodes : ℕ) (g : List Decl) → IsSound nodes 1 (opening_stage g) (start g nodes)
sound-start nodes g = record {
  graph = refl;
  many = length-replicate nodes (fresh_peer g nodes);
  held = λ p member. subst (IsHeld nodes g) (sym (at-replicate nodes p (fresh_peer g nodes) no_peer member)) (held-fresh nodes g);
  below = λ p member. subst (λ (r : Peer). AreBelow 1 r.counts) (sym (at-replicate nodes p (fresh_peer g nodes) no_peer member)) (below-fresh nodes g);
  sent_many = refl;
  sent = λ i low. absurd (omega (arith, low));
  sent_below = λ i low. absurd (omega (arith, low));
  marks_many = refl;
  marks = λ m low. absurd (omega (arith, low));
  reads = λ k low. absurd (omega (arith, low));
}

pub sound-later : (nodes c : ℕ) (s : Stage) (run : Run) → IsSound nodes c s run → IsSound nodes (c + 1) s run
sound-later nodes c s run h = record {
  graph = h.graph;
  many = h.many;
  held = h.held;
  below = λ p member. below-later c (peer_at run.peers p).counts (h.below p member);
  sent_many = h.sent_many;
  sent = h.sent;
  sent_below = λ i low. below-later c (sent_number run.sent i).counts (h.sent_below i low);
  marks_many = h.marks_many;
  marks = h.marks;
  reads = h.reads;
}

-- ---- another replica in the place of one

sound-peer : (nodes c p : ℕ) (s : Stage) (run : Run) (r : Peer) → IsSound nodes c s run → IsHeld nodes run.graph r → AreBelow c r.counts → IsSound nodes c s (with_peer run p r)
sound-peer nodes c p s run r h held below = record {
  graph = h.graph;
  many = set-length run.peers p r ∙ h.many;
  held = λ q member. at-set (IsHeld nodes run.graph) run.peers p r no_peer q (omega (arith, member, h.many)) (λ _. held) (λ _. h.held q member);
  below = λ q member. at-set (λ (t : Peer). AreBelow c t.counts) run.peers p r no_peer q (omega (arith, member, h.many)) (λ _. below) (λ _. h.below q member);
  sent_many = h.sent_many;
  sent = h.sent;
  sent_below = h.sent_below;
  marks_many = h.marks_many;
  marks = h.marks;
  reads = h.reads;
}

pub sound-update : (nodes c p x : ℕ) (s : Stage) (op : Op) (run next : Run) → IsSound nodes c s run → c ≤ 100000 → p < nodes → x < length run.graph → IsUpdate nodes run.graph x op
    → act c run (Update p x op) ≡ Ok next → IsSound nodes (c + 1) s next
sound-update nodes c p x s op run next h few member low update e =
    let r = peer_at run.peers p in
    let after = updated-run c p x run next (updated p x op r) e in
    let held = h.held p member in
    same-run next (with_peer run p (updated p x op r)) after.0 (IsSound nodes (c + 1) s)
    (sound-peer nodes (c + 1) p s run (updated p x op r) (sound-later nodes c s run h)
    (held-updated nodes p x run.graph op r held member low update (omega (arith, few, below-at c p r.counts (h.below p member) (omega (arith, member, held.wide)))) after.1)
    (below-updated c p x op r (h.below p member)))

pub sound-take : (nodes c p i : ℕ) (s : Stage) (run next : Run) → IsSound nodes c s run → p < nodes → i < length run.sent → act c run (Take p i) ≡ Ok next → IsSound nodes c s next
sound-take nodes c p i s run next h member low e =
    let r = peer_at run.peers p in
    let m = sent_number run.sent i in
    let after = delivered-run c p run next (delivered run.graph m r) e in
    same-run next (with_peer run p (delivered run.graph m r)) after.0 (IsSound nodes c s)
    (sound-peer nodes c p s run (delivered run.graph m r) h
    (held-delivered nodes run.graph m r (h.held p member) (h.sent i low) after.1)
    (below-delivered c run.graph m r ((h.held p member).wide ∙ sym (h.sent i low).wide) (h.below p member) (h.sent_below i low)))

-- ---- marks, messages and reads

pub sound-keep : (nodes c p x : ℕ) (s : Stage) (run next : Run) → IsSound nodes c s run → p < nodes → x < length run.graph → IsTrue (is_source (kind_at run.graph x))
    → act c run (Keep p x) ≡ Ok next → IsSound nodes c (stage_after nodes s (Mark p x)) next
sound-keep nodes c p x s run next h member low source e = same-run next (with_mark run kept) (ok-same (with_mark run kept) next e) (IsSound nodes c (stage_after nodes s (Mark p x))) (record {
  graph = h.graph;
  many = h.many;
  held = h.held;
  below = h.below;
  sent_many = h.sent_many;
  sent = h.sent;
  sent_below = h.sent_below;
  marks_many = omega (arith, h.marks_many, length-push run.marks kept, length-push s.marked x);
  marks = each-push (λ m k. IsMarked nodes run.graph (slice_index_or (s.marked ++ x ∷ []) m 0) k) run.marks kept no_mark
      (λ m made. subst (λ (y : ℕ). IsMarked nodes run.graph y (mark_at run.marks m)) (sym (at-append s.marked (x ∷ []) m 0 (omega (arith, made, h.marks_many)))) (h.marks m made))
      (subst (λ (y : ℕ). IsMarked nodes run.graph y kept) (sym (at-last s.marked x 0) ∙ ap (λ (m : ℕ). slice_index_or (s.marked ++ x ∷ []) m 0) (sym h.marks_many)) is);
  reads = h.reads;
}) where
  kept : Marked
  kept = record { shape = shape_of (length run.peers) (kind_at run.graph x); content = content_at (peer_at run.peers p).contents x }

  is : IsMarked nodes run.graph x kept
  is = record { declared = low; shape = ap (λ (n : ℕ). shape_of n (kind_at run.graph x)) h.many; source = (h.held p member).sources x low source }

pub sound-post : (nodes c p : ℕ) (s : Stage) (run next : Run) → IsSound nodes c s run → p < nodes → act c run (Post p) ≡ Ok next → IsSound nodes c (stage_after nodes s (Send p)) next
sound-post nodes c p s run next h member e = same-run next (with_sent run (run.sent ++ m ∷ [])) (sent-run c run next (run.sent ++ m ∷ []) e) (IsSound nodes c (stage_after nodes s (Send p))) (record {
  graph = h.graph;
  many = h.many;
  held = h.held;
  below = h.below;
  sent_many = omega (arith, h.sent_many, length-push run.sent m);
  sent = each-push (λ i k. IsSentTo nodes run.graph k) run.sent m no_message h.sent (held-sent nodes run.graph (peer_at run.peers p) (h.held p member));
  sent_below = each-push (λ i k. AreBelow c k.counts) run.sent m no_message h.sent_below (h.below p member);
  marks_many = h.marks_many;
  marks = h.marks;
  reads = h.reads;
}) where
  m : Message
  m = message_at run.graph (peer_at run.peers p)

pub sound-open : (nodes c p x : ℕ) (s : Stage) (until : Until) (run next : Run) → IsSound nodes c s run → p < nodes → x < length run.graph
    → IsTrue (suits (threshold_of run.marks until) (shape_of nodes (kind_at run.graph x))) → act c run (Open p x until) ≡ Ok next → IsSound nodes c s next
sound-open nodes c p x s until run next h member low suited e = same-run next (with_read run opened) (ok-same (with_read run opened) next e) (IsSound nodes c s) (record {
  graph = h.graph;
  many = h.many;
  held = h.held;
  below = h.below;
  sent_many = h.sent_many;
  sent = h.sent;
  sent_below = h.sent_below;
  marks_many = h.marks_many;
  marks = h.marks;
  reads = each-push (λ k o. IsOpened nodes run.graph o) run.reads opened no_read h.reads (record { node = member; var = low; suits_it = suited });
}) where
  opened : Opened
  opened = record { node = p; var = x; threshold = threshold_of run.marks until }

-- ---- acts that leave replicas, messages, marks and reads as they are

pub sound-point : (nodes c : ℕ) (s : Stage) (run next : Run) → IsSound nodes c s run → act c run Point ≡ Ok next → IsSound nodes c s next
sound-point nodes c s run next h e = same-run next run (point-same c 0 run.peers run next e) (IsSound nodes c s) h

pub sound-show : (nodes c p x : ℕ) (s : Stage) (run next : Run) → IsSound nodes c s run → act c run (Show p x) ≡ Ok next → IsSound nodes c s next
sound-show nodes c p x s run next h e = same-run next _ (ok-same _ next e) (IsSound nodes c s) (record {
  graph = h.graph;
  many = h.many;
  held = h.held;
  below = h.below;
  sent_many = h.sent_many;
  sent = h.sent;
  sent_below = h.sent_below;
  marks_many = h.marks_many;
  marks = h.marks;
  reads = h.reads;
})

reached-run : (c : ℕ) (b : Bool) (run next : Run) → (if b then Ok run else Err (NotReached c)) ≡ Ok next → next ≡ run
reached-run c true run next e = cc
reached-run c false run next e = absurd cc

pub sound-reach : (nodes c p x : ℕ) (s : Stage) (until : Until) (run next : Run) → IsSound nodes c s run → act c run (Reach p x until) ≡ Ok next → IsSound nodes c s next
sound-reach nodes c p x s until run next h e = same-run next run (reached-run c _ run next e) (IsSound nodes c s) h

-- ---- declarations

marked-extended : (nodes : ℕ) (g : List Decl) (d : Decl) (x : ℕ) (m : Marked) → IsMarked nodes g x m → IsMarked nodes (g ++ d ∷ []) x m
marked-extended nodes g d x m h =
    let same = kind-append g (d ∷ []) x h.declared in
    record { declared = omega (arith, h.declared, length-push g d); shape = h.shape ∙ ap (shape_of nodes) (sym same); source = subst (λ (k : Kind). IsSource nodes k m.content) (sym same) h.source }

opened-extended : (nodes : ℕ) (g : List Decl) (d : Decl) (o : Opened) → IsOpened nodes g o → IsOpened nodes (g ++ d ∷ []) o
opened-extended nodes g d o h =
    record { node = h.node; var = omega (arith, h.var, length-push g d); suits_it = subst (λ (k : Kind). IsTrue (suits o.threshold (shape_of nodes k))) (sym (kind-append g (d ∷ []) o.var h.var)) h.suits_it }

pub sound-extend : (nodes c : ℕ) (s : Stage) (d : Decl) (run next : Run) → IsSound nodes c s run → act c run (Extend d) ≡ Ok next → IsSound nodes c (stage_after nodes s (Declare d)) next
sound-extend nodes c s d run next h e = same-run next (with_decl run d) (ok-same (with_decl run d) next e) (IsSound nodes c (stage_after nodes s (Declare d))) (record {
  graph = ap (λ (g : List Decl). g ++ d ∷ []) h.graph;
  many = map-length (extended (length run.peers) d) run.peers ∙ h.many;
  held = λ p member. subst (IsHeld nodes (run.graph ++ d ∷ [])) (sym (at p member)) (held-extended nodes run.graph d (peer_at run.peers p) (h.held p member));
  below = λ p member. subst (λ (r : Peer). AreBelow c r.counts) (sym (at p member)) (h.below p member);
  sent_many = h.sent_many;
  sent = λ i low. sent-extended nodes run.graph d (sent_number run.sent i) (h.sent i low);
  sent_below = h.sent_below;
  marks_many = h.marks_many;
  marks = λ m low. marked-extended nodes run.graph d (slice_index_or s.marked m 0) (mark_at run.marks m) (h.marks m low);
  reads = λ k low. opened-extended nodes run.graph d (read_at run.reads k) (h.reads k low);
}) where
  at : (p : ℕ) → p < nodes → peer_at (map (extended (length run.peers) d) run.peers) p ≡ extended nodes d (peer_at run.peers p)
  at p member = at-map-low (extended (length run.peers) d) run.peers p no_peer no_peer (omega (arith, member, h.many)) ∙ ap (λ (n : ℕ). extended n d (peer_at run.peers p)) h.many

-- ---- marks that a command names

same-shape : (s : Shape) → IsTrue (is_shape s s)
same-shape set = refl
same-shape grow = refl
same-shape (counter n) = let same : (n == n) ≡ true = grind (arith, nat_tests) in same
same-shape register = refl
same-shape fold = refl

-- a mark of a variable is kept
mark-of : (nodes c x m : ℕ) (s : Stage) (run : Run) → IsSound nodes c s run → IsMarkOf s x m → IsMarked nodes run.graph x (mark_at run.marks m)
mark-of nodes c x m s run h is = subst (λ (y : ℕ). IsMarked nodes run.graph y (mark_at run.marks m)) is.1 (h.marks m (omega (arith, is.0, h.marks_many)))

mark-suits : (nodes : ℕ) (g : List Decl) (x : ℕ) (m : Marked) → IsMarked nodes g x m → IsTrue (is_shape m.shape (shape_of nodes (kind_at g x)))
mark-suits nodes g x m h = subst (λ (shape : Shape). IsTrue (is_shape shape (shape_of nodes (kind_at g x)))) (sym h.shape) (same-shape (shape_of nodes (kind_at g x)))

pub sound-suits : (nodes c x : ℕ) (s : Stage) (until : Until) (run : Run) → IsSound nodes c s run → x < length s.graph → MayAsk nodes s x until
    → IsTrue (suits (threshold_of run.marks until) (shape_of nodes (kind_at run.graph x)))
sound-suits nodes c x s (command.AtLeast m) run h low may = mark-suits nodes run.graph x (mark_at run.marks m) (mark-of nodes c x m s run h may)
sound-suits nodes c x s (command.Above m) run h low may = mark-suits nodes run.graph x (mark_at run.marks m) (mark-of nodes c x m s run h may)
sound-suits nodes c x s (command.Count k) run h low may = subst (λ (g : List Decl). IsTrue (suits (threshold_of run.marks (command.Count k)) (shape_of nodes (kind_at g x)))) (sym h.graph) may
sound-suits nodes c x s (command.Added vs) run h low may = subst (λ (g : List Decl). IsTrue (suits (threshold_of run.marks (command.Added vs)) (shape_of nodes (kind_at g x)))) (sym h.graph) may
sound-suits nodes c x s (command.Removed vs) run h low may = subst (λ (g : List Decl). IsTrue (suits (threshold_of run.marks (command.Removed vs)) (shape_of nodes (kind_at g x)))) (sym h.graph) may

pub sound-joins : (nodes c x m : ℕ) (s : Stage) (run : Run) → IsSound nodes c s run → IsMarkOf s x m → IsUpdate nodes run.graph x (Join (mark_at run.marks m).content)
sound-joins nodes c x m s run h is = (mark-of nodes c x m s run h is).source

pub ruleset act_laws = (
  sound-start,
  sound-update,
  sound-keep,
  sound-post,
  sound-take,
  sound-point,
  sound-show,
  sound-open,
  sound-reach,
  sound-extend,
  sound-later,
)

pub ruleset mark_laws = (sound-suits, sound-joins)
