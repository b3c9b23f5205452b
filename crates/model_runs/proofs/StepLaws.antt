-- Each act that is done keeps every node tied to the journal of its calls.
use Rattle.std.proofs.Common.{◌≡◌, ℕ, ◌+◌, ◌≤◌, ◌<◌, ◌⊎◌, inl, inr, IsTrue, List, [], ◌∷◌, ◌++◌, length, map, slice_index_or, slice_set, Ok, refl, sym, ap, subst, ◌∙◌, arith}
use Rattle.model_states.specs.Counts.{count_at}
use Rattle.model_states.specs.Content.{Content, least, join_contents, size_of, row_limit}
use Rattle.model_states.specs.Update.{Op, Join, delta}
use Rattle.model_graph.specs.Graph.{Kind, Decl, is_source, kind_at}
use Rattle.model_graph.specs.Evaluation.{least_of, content_at, first_large}
use Rattle.model_graph.specs.Lawful.{MayFollow, sources_among, shape_of}
use Rattle.model_graph.proofs.PlaceLaws.{below-or-not, at-append, at-last, at-past, at-set, set-length, at-map-low, length-push}
use Rattle.model_graph.specs.Message.{Message}
use Rattle.model_graph.proofs.MessageLaws.{among-append}
use Rattle.model_world.specs.World as world
use Rattle.model_world.specs.World.{Peer, Run, peer_at, updated, delivered, extended, message_at, no_message, sent_number, no_mark, mark_at, no_peer, act}
use Rattle.model_world.specs.Delta.{Delta, deltas_at}
use Rattle.model_world.specs.Follow.{Followed, delta_of, followed}
use Rattle.model_world.specs.Owner.{AreOwned}
use Rattle.model_world.proofs.VariableLaws.{kind-append}
use Rattle.model_world.proofs.SoundLaws.{IsSound, Fits, sound-act}
use Rattle.model_journal.specs.Entry.{Update, Deliver, Extend, Entry, Frame}
use Rattle.model_journal.specs.Legal.{count_limit, IsValid, IsOpOf, IsSmallOp}
use Rattle.model_runs.specs.Calls.{frame_of, fed, call_of}
use Rattle.model_runs.proofs.MatchLaws.{MayCome, MayBind, append-nothing, append-again, update-matches, deliver-matches, extend-matches, valid-here, sends-well}
use Rattle.model_runs.proofs.TieLaws.{Tied, Ties, delivery-small, each-node, none-large, small-here, small-least, ties-step, update-small}

-- what an act asks for so that it is a lawful call
abbrev pub FitsLawfully : ℕ → Followed → world.Act → Type 0
FitsLawfully nodes f (world.Update p x op) =
    (p < nodes) × (x < length f.run.graph) × IsTrue (is_source (kind_at f.run.graph x)) × ((s : Content) → op ≡ Join s → AreOwned f.deltas x s.rows)
    × IsOpOf (kind_at f.run.graph x) op × IsSmallOp nodes (kind_at f.run.graph x) op
FitsLawfully nodes f (world.Keep p x) = (p < nodes) × (x < length f.run.graph)
FitsLawfully nodes f (world.Post p) = p < nodes
FitsLawfully nodes f (world.Take p i) = i < length f.run.sent
FitsLawfully nodes f (world.Extend d) = MayFollow f.run.graph d
FitsLawfully nodes f _ = Unit {0}

-- how many updates an act is
abbrev pub updates : world.Act → ℕ
updates (world.Update p x op) = 1
updates _ = 0

fits : (nodes : ℕ) (f : Followed) (a : world.Act) → FitsLawfully nodes f a → Fits nodes f a
fits nodes f (world.Update p x op) h = (h.0, h.1, h.2, h.3)
fits nodes f (world.Keep p x) h = h
fits nodes f (world.Post p) h = tt
fits nodes f (world.Take p i) h = tt
fits nodes f world.Point h = tt
fits nodes f (world.Show p x) h = tt
fits nodes f (world.Open p x until) h = tt
fits nodes f (world.Reach p x until) h = tt
fits nodes f (world.Extend d) h = tt

-- what each node counts stays in the limit
few-counts : (nodes done : ℕ) (f : Followed) → IsSound nodes f → ((q : ℕ) → length (deltas_at f.deltas q) ≤ done) → done ≤ count_limit → (p : ℕ) → p < nodes → (q : ℕ) → count_at (peer_at f.run.peers p).counts q ≤ count_limit
few-counts nodes done f s few limit p low q = omega (arith, (s.holds p low).made q, few q, limit)

module _ (opening : List Decl) (nodes done : ℕ) (h : ℕ → List Entry) (f : Followed) (t : Tied opening nodes done h f) where
  frame : ℕ → Frame
  frame p = frame_of opening nodes p

  -- nobody gets an entry
  pub nothing-new : (g : Followed) → Tied opening nodes done h g → Tied opening nodes done (λ q. h q ++ []) g
  nothing-new g s = subst (λ (k : ℕ → List Entry). Tied opening nodes done k g) (λ i q. sym (append-nothing (h q)) i) s

  more-deltas : (p : ℕ) (d : Delta) (q : ℕ) → length (deltas_at (slice_set f.deltas p (deltas_at f.deltas p ++ d ∷ [])) q) ≤ done + 1
  more-deltas p d q = choose (below-or-not q (length f.deltas)) where
    choose : (q < length f.deltas) ⊎ (length f.deltas ≤ q) → length (deltas_at (slice_set f.deltas p (deltas_at f.deltas p ++ d ∷ [])) q) ≤ done + 1
    choose (inl low) = at-set (λ (ds : List Delta). length ds ≤ done + 1) f.deltas p (deltas_at f.deltas p ++ d ∷ []) [] q low
        (λ _. omega (arith, length-push (deltas_at f.deltas p) d, t.few p)) (λ _. omega (arith, t.few q))
    choose (inr high) = omega (arith, ap (λ (ds : List Delta). length ds) (at-past (slice_set f.deltas p (deltas_at f.deltas p ++ d ∷ [])) q [] (omega (arith, high, set-length f.deltas p (deltas_at f.deltas p ++ d ∷ [])))))

  pub tied-update : (c p x : ℕ) (op : Op) (next : Run) → FitsLawfully nodes f (world.Update p x op) → act c f.run (world.Update p x op) ≡ Ok next → done + 1 ≤ count_limit
      → Tied opening nodes (done + 1) (λ q. h q ++ call_of f.run q (world.Update p x op)) (followed f (world.Update p x op))
  tied-update c p x op next may e limit = record {
    sound = sound;
    ties = each-node (λ q k r. Ties (frame_of opening nodes q) k f.run.graph r) nodes h f.run.peers p (fed (Update x op)) after t.sound.many t.ties new;
    sent = t.sent;
    marks = t.marks;
    few = more-deltas p (delta_of (peer_at f.run.peers p) p x op);
  } where
    sound : IsSound nodes (followed f (world.Update p x op))
    sound = sound-act nodes f (world.Update p x op) t.sound (fits nodes f (world.Update p x op) may)

    after : Peer
    after = updated p x op (peer_at f.run.peers p)

    there : p < nodes → peer_at (slice_set f.run.peers p (updated p x op (peer_at f.run.peers p))) p ≡ updated p x op (peer_at f.run.peers p)
    there low = at-set (λ (r : Peer). r ≡ updated p x op (peer_at f.run.peers p)) f.run.peers p after no_peer p (omega (arith, low, t.sound.many)) (λ _. refl) (λ n. absurd (n refl))

    new : p < nodes → Ties (frame_of opening nodes p) (h p ++ fed (Update x op) ∷ []) f.run.graph (updated p x op (peer_at f.run.peers p))
    new low =
        let X = frame_of opening nodes p in
        let tie = t.ties p low in
        let r = peer_at f.run.peers p in
        let joined = join_contents (content_at r.contents x) (delta op (content_at r.contents x) p (count_at r.counts p + 1)) in
        ties-step X (h p) (Update x op) f.run.graph f.run.graph r after tie (update-matches X (h p) f.run.graph r tie.legal tie.same x op may.1)
        (subst (λ (g : List Decl). (x < length g) × IsOpOf (kind_at g x) op × IsSmallOp nodes (kind_at g x) op) (sym tie.same.graph_is) (may.1, may.4, may.5)) tt
        (λ y small. at-set (λ (s : Content). size_of s ≤ row_limit) r.contents x joined least y (omega (arith, small, (t.sound.holds p low).long))
        (λ is. subst (λ (s : Content). size_of s ≤ row_limit) (at-set (λ (s : Content). s ≡ joined) r.contents x joined least x (omega (arith, may.1, (t.sound.holds p low).long)) (λ _. refl) (λ n. absurd (n refl)))
        (update-small (size_of (content_at after.contents x)) _ _ next e))
        (λ _. small-here X (h p) f.run.graph r tie y small))
        (λ q. subst (λ (z : Peer). count_at z.counts q ≤ count_limit) (there low) (few-counts nodes (done + 1) (followed f (world.Update p x op)) sound (more-deltas p (delta_of (peer_at f.run.peers p) p x op)) limit p low q))

  pub tied-take : (c p i : ℕ) (next : Run) → i < length f.run.sent → act c f.run (world.Take p i) ≡ Ok next → done ≤ count_limit
      → Tied opening nodes done (λ q. h q ++ call_of f.run q (world.Take p i)) (followed f (world.Take p i))
  tied-take c p i next made e limit = record {
    sound = sound;
    ties = each-node (λ q k r. Ties (frame_of opening nodes q) k f.run.graph r) nodes h f.run.peers p (fed (Deliver i (sent_number f.run.sent i))) after t.sound.many t.ties new;
    sent = t.sent;
    marks = t.marks;
    few = t.few;
  } where
    sound : IsSound nodes (followed f (world.Take p i))
    sound = sound-act nodes f (world.Take p i) t.sound tt

    m : Message
    m = sent_number f.run.sent i

    after : Peer
    after = delivered f.run.graph (sent_number f.run.sent i) (peer_at f.run.peers p)

    there : p < nodes → peer_at (slice_set f.run.peers p (delivered f.run.graph (sent_number f.run.sent i) (peer_at f.run.peers p))) p ≡ delivered f.run.graph (sent_number f.run.sent i) (peer_at f.run.peers p)
    there low = at-set (λ (r : Peer). r ≡ delivered f.run.graph (sent_number f.run.sent i) (peer_at f.run.peers p)) f.run.peers p after no_peer p (omega (arith, low, t.sound.many)) (λ _. refl) (λ n. absurd (n refl))

    long : p < nodes → length (delivered f.run.graph (sent_number f.run.sent i) (peer_at f.run.peers p)).contents ≡ length f.run.graph
    long low = ap (λ (r : Peer). length r.contents) (sym (there low)) ∙ (sound.holds p low).long

    new : p < nodes → Ties (frame_of opening nodes p) (h p ++ fed (Deliver i (sent_number f.run.sent i)) ∷ []) f.run.graph (delivered f.run.graph (sent_number f.run.sent i) (peer_at f.run.peers p))
    new low =
        let X = frame_of opening nodes p in
        let tie = t.ties p low in
        let r = peer_at f.run.peers p in
        let come = t.sent i made in
        ties-step X (h p) (Deliver i m) f.run.graph f.run.graph r after tie (deliver-matches X (h p) f.run.graph r tie.legal tie.same i m)
        (come.wide, (come.others, come.first ∙ ap sources_among (sym tie.same.graph_is))) come.valid
        (λ x small. none-large 0 after.contents (delivery-small (first_large 0 after.contents) c p _ next e) x (omega (arith, small, long low)))
        (λ q. subst (λ (z : Peer). count_at z.counts q ≤ count_limit) (there low) (few-counts nodes done (followed f (world.Take p i)) sound t.few limit p low q))

  pub tied-keep : (p x : ℕ) → p < nodes → x < length f.run.graph → Tied opening nodes done (λ q. h q ++ []) (followed f (world.Keep p x))
  tied-keep p x low small = nothing-new (followed f (world.Keep p x)) (record {
    sound = sound-act nodes f (world.Keep p x) t.sound (low, small);
    ties = t.ties;
    sent = t.sent;
    marks = λ m made. choose m made (below-or-not m (length f.marked));
    few = t.few;
  }) where
    mark : world.Marked
    mark = record { shape = shape_of (length f.run.peers) (kind_at f.run.graph x); content = content_at (peer_at f.run.peers p).contents x }

    choose : (m : ℕ) → m < length (f.marked ++ x ∷ []) → (m < length f.marked) ⊎ (length f.marked ≤ m) → MayBind f.run.graph nodes (slice_index_or (f.marked ++ x ∷ []) m 0) (mark_at (f.run.marks ++ mark ∷ []) m).content
    choose m made (inl first) =
        subst (λ (c : world.Marked). MayBind f.run.graph nodes (slice_index_or (f.marked ++ x ∷ []) m 0) c.content) (sym (at-append f.run.marks (mark ∷ []) m no_mark (omega (arith, first, t.sound.kept))))
        (subst (λ (y : ℕ). MayBind f.run.graph nodes y (mark_at f.run.marks m).content) (sym (at-append f.marked (x ∷ []) m 0 first)) (t.marks m first))
    choose m made (inr last) =
        let here : length f.marked ≡ m = omega (arith, last, made, length-push f.marked x) in
        let there : length f.run.marks ≡ m = omega (arith, here, t.sound.kept) in
        let tie = t.ties p low in
        subst (λ (c : world.Marked). MayBind f.run.graph nodes (slice_index_or (f.marked ++ x ∷ []) m 0) c.content) (sym (at-last f.run.marks mark no_mark) ∙ ap (λ (n : ℕ). mark_at (f.run.marks ++ mark ∷ []) n) there)
        (subst (λ (y : ℕ). MayBind f.run.graph nodes y mark.content) (sym (at-last f.marked x 0) ∙ ap (λ (n : ℕ). slice_index_or (f.marked ++ x ∷ []) n 0) here)
        (record { declared = small; valid = λ source. valid-here (frame_of opening nodes p) (h p) f.run.graph (peer_at f.run.peers p) tie.legal tie.same x small source }))

  pub tied-post : (p : ℕ) → p < nodes → Tied opening nodes done (λ q. h q ++ []) (followed f (world.Post p))
  tied-post p low = nothing-new (followed f (world.Post p)) (record {
    sound = sound-act nodes f (world.Post p) t.sound tt;
    ties = t.ties;
    sent = λ i made. choose i made (below-or-not i (length f.run.sent));
    marks = t.marks;
    few = t.few;
  }) where
    m : Message
    m = message_at f.run.graph (peer_at f.run.peers p)

    choose : (i : ℕ) → i < length (f.run.sent ++ m ∷ []) → (i < length f.run.sent) ⊎ (length f.run.sent ≤ i) → MayCome f.run.graph nodes (sent_number (f.run.sent ++ m ∷ []) i)
    choose i made (inl first) = subst (MayCome f.run.graph nodes) (sym (at-append f.run.sent (m ∷ []) i no_message first)) (t.sent i first)
    choose i made (inr last) =
        let here : length f.run.sent ≡ i = omega (arith, last, made, length-push f.run.sent m) in
        let tie = t.ties p low in
        let holds = t.sound.holds p low in
        subst (MayCome f.run.graph nodes) (sym (at-last f.run.sent m no_message) ∙ ap (λ (n : ℕ). sent_number (f.run.sent ++ m ∷ []) n) here)
        (sends-well (frame_of opening nodes p) (h p) f.run.graph (peer_at f.run.peers p) tie.legal tie.same holds.long holds.wide)

  pub tied-extend : (d : Decl) → MayFollow f.run.graph d → done ≤ count_limit → Tied opening nodes done (λ q. h q ++ fed (Extend d) ∷ []) (followed f (world.Extend d))
  tied-extend d may limit = record {
    sound = sound;
    ties = λ q low. subst (λ (r : Peer). Ties (frame_of opening nodes q) (h q ++ fed (Extend d) ∷ []) (f.run.graph ++ d ∷ []) r) (sym (there q low)) (new q low);
    sent = λ i made.
        let come = t.sent i made in
        record {
          wide = come.wide;
          others = come.others ++ sources_among (d ∷ []);
          first = sym (append-again (map (λ s. s.decl) (sent_number f.run.sent i).sources) come.others (sources_among (d ∷ []))) ∙ ap (λ (ds : List Decl). ds ++ sources_among (d ∷ [])) come.first ∙ sym (among-append f.run.graph (d ∷ []));
          valid = come.valid;
        };
    marks = λ m made.
        let mark = t.marks m made in
        let x = slice_index_or f.marked m 0 in
        let same : kind_at f.run.graph x ≡ kind_at (f.run.graph ++ d ∷ []) x = sym (kind-append f.run.graph (d ∷ []) x mark.declared) in
        record {
          declared = omega (arith, mark.declared, length-push f.run.graph d);
          valid = subst (λ (k : Kind). IsTrue (is_source k) → IsValid nodes k 1 (mark_at f.run.marks m).content) same mark.valid;
        };
    few = t.few;
  } where
    sound : IsSound nodes (followed f (world.Extend d))
    sound = sound-act nodes f (world.Extend d) t.sound tt

    there : (q : ℕ) → q < nodes → peer_at (map (extended (length f.run.peers) d) f.run.peers) q ≡ extended nodes d (peer_at f.run.peers q)
    there q low = at-map-low (extended (length f.run.peers) d) f.run.peers q no_peer no_peer (omega (arith, low, t.sound.many)) ∙ ap (λ (n : ℕ). extended n d (peer_at f.run.peers q)) t.sound.many

    new : (q : ℕ) → q < nodes → Ties (frame_of opening nodes q) (h q ++ fed (Extend d) ∷ []) (f.run.graph ++ d ∷ []) (extended nodes d (peer_at f.run.peers q))
    new q low =
        let X = frame_of opening nodes q in
        let tie = t.ties q low in
        let r = peer_at f.run.peers q in
        ties-step X (h q) (Extend d) f.run.graph (f.run.graph ++ d ∷ []) r (extended nodes d r) tie (extend-matches X (h q) f.run.graph r tie.legal tie.same d)
        (subst (λ (g : List Decl). MayFollow g d) (sym tie.same.graph_is) may) tt
        (λ x small. choose x small (below-or-not x (length f.run.graph)))
        (few-counts nodes done f t.sound t.few limit q low) where
          choose : (x : ℕ) → x < length (f.run.graph ++ d ∷ []) → (x < length f.run.graph) ⊎ (length f.run.graph ≤ x) → size_of (content_at ((peer_at f.run.peers q).contents ++ least_of nodes d.kind ∷ []) x) ≤ row_limit
          choose x small (inl first) =
              subst (λ (s : Content). size_of s ≤ row_limit) (sym (at-append (peer_at f.run.peers q).contents (least_of nodes d.kind ∷ []) x least (omega (arith, first, (t.sound.holds q low).long))))
              (small-here (frame_of opening nodes q) (h q) f.run.graph (peer_at f.run.peers q) (t.ties q low) x first)
          choose x small (inr last) =
              let here : length (peer_at f.run.peers q).contents ≡ x = omega (arith, last, small, length-push f.run.graph d, (t.sound.holds q low).long) in
              subst (λ (s : Content). size_of s ≤ row_limit) (sym (at-last (peer_at f.run.peers q).contents (least_of nodes d.kind) least) ∙ ap (λ (n : ℕ). content_at ((peer_at f.run.peers q).contents ++ least_of nodes d.kind ∷ []) n) here) (small-least nodes d.kind)
