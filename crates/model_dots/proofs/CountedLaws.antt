-- In a run in which nothing is bound each row that is known has the token of a counted update, and a counted row is known.
use Rattle.std.proofs.Common.{◌≡◌, ℕ, zero, suc, ◌+◌, ◌≤◌, ◌<◌, ◌⊎◌, inl, inr, Bool, true, false, ◌==◌, nat_lt, List, [], ◌∷◌, ◌++◌, length, slice_index_or, slice_set, replicate, Some, refl, sym, ap, subst, ◌∙◌, arith}
use Rattle.std.proofs.lemmas.Bool.Decides.{nat_tests}
use Rattle.std.proofs.lemmas.Option.{none-some}
use Rattle.model_values.specs.Value.{Val}
use Rattle.model_values.specs.Token.{Tok, single, both}
use Rattle.model_values.specs.Row.{Row}
use Rattle.model_sets.specs.Rows.{mark, HasRow, IsDeadIn, join}
use Rattle.model_sets.proofs.RowLaws.{mark-join, mark-small}
use Rattle.model_states.specs.Counts.{count_at, zeros, larger}
use Rattle.model_states.specs.Content.{Content, least, join_contents}
use Rattle.model_states.specs.Content as content
use Rattle.model_states.specs.Update.{Op, Add, Remove, Insert, Inc, Max, Join}
use Rattle.model_states.proofs.CountLaws.{count_at-larger}
use Rattle.model_states.proofs.DeltaLaws.{add-row, remove-row}
use Rattle.model_graph.specs.Graph.{Kind, Decl, kind_at}
use Rattle.model_graph.specs.Evaluation.{content_at, rows_at, least_of}
use Rattle.model_graph.proofs.PlaceLaws.{below-or-not, at-append, at-last, at-past, at-push, at-set, at-map-low, at-replicate, set-length, length-push, equal-numbers}
use Rattle.model_graph.proofs.LeastLaws.{least_of-rows}
use Rattle.model_world.specs.Command as command
use Rattle.model_world.specs.Command.{Command}
use Rattle.model_world.specs.Lawful.{Stage, opening_stage, stage_after, MayBeDone, AreLawful}
use Rattle.model_world.specs.World.{Peer, Run, Act, Update, Post, Take, Extend, no_peer, fresh_peer, peer_at, updated, delivered, extended, message_at, no_message, sent_number, sync_acts, acts}
use Rattle.model_world.specs.Delta.{Delta, deltas_at, brought_to, join_all, known}
use Rattle.model_world.specs.Owner.{no_delta, delta_at}
use Rattle.model_world.specs.Follow.{Followed, delta_of, begin, followed, afters}
use Rattle.model_world.specs.Holds.{AreMade}
use Rattle.model_world.proofs.VariableLaws.{known-append, known-later}
use Rattle.model_world.proofs.UpdateLaws.{known-kept, own-holds}
use Rattle.model_world.proofs.HoldLaws.{each-var}
use Rattle.model_world.proofs.TokenLaws.{known-owned}
use Rattle.model_world.proofs.KnownLaws.{known-above, known-larger, known-nothing}
use Rattle.model_world.proofs.KnowsLaws.{first-empty}
use Rattle.model_world.proofs.SoundLaws.{IsSound, sound-act}
use Rattle.model_world.proofs.RoundLaws.{AreCalm, calm-sync}
use Rattle.model_world.proofs.PlayLaws.{IsAt, stage_of}
use Rattle.model_dots.specs.Dots.{is_counted, IsGiven, raised, AreGiven, HasWhatIsCounted}
use Rattle.model_dots.proofs.StandLaws.{raised-own, given-raised}
use Rattle.model_dots.specs.Unlimited.{IsUnlimited}
use Rattle.model_dots.specs.Counted.{IsFree, AreFree, AreCovered, AreNumbered}
use Rattle.model_dots.proofs.DotLaws.{given-more}
use Rattle.model_dots.proofs.UnlimitedLaws.{followed_all, all-run, step-stands, begin-at, all-sound}

-- ---- rows

given-least : (s : Content) (nodes : ℕ) (k : Kind) (counts : List ℕ) → s ≡ least_of nodes k → AreGiven s.rows counts
given-least s nodes k counts e v t h = absurd (omega (arith, (subst (λ (rows : List Row). 0 < mark rows v t) (ap (λ (c : Content). c.rows) e ∙ least_of-rows nodes k) h)))

has-either : (s t : List Row) (v : Val) (w : Tok) → HasRow (join s t) v w → HasRow s v w ⊎ HasRow t v w
has-either s t v w h = choose (nat_lt 0 (mark s v w)) refl where
  choose : (b : Bool) → nat_lt 0 (mark s v w) ≡ b → HasRow s v w ⊎ HasRow t v w
  choose true e = inl (grind (arith, nat_tests, e))
  choose false e =
      let none : mark s v w ≡ 0 = grind (arith, nat_tests, e) in
      inr (omega (arith, h, mark-join s t v w, none))

given-join : (s t : List Row) (c d : List ℕ) → AreGiven s c → AreGiven t d → AreGiven (join s t) (larger c d)
given-join s t c d h g v w some = choose (has-either s t v w some) where
  choose : HasRow s v w ⊎ HasRow t v w → IsGiven (larger c d) w
  choose (inl a) = given-more c (larger c d) w (λ q. omega (arith, count_at-larger c d q)) (h v w a)
  choose (inr b) = given-more d (larger c d) w (λ q. omega (arith, count_at-larger c d q)) (g v w b)

-- ---- numbered deltas

module _ (all : List (List Delta)) (p : ℕ) (d : Delta) where
  abbrev pushed : List (List Delta)
  pushed = slice_set all p (deltas_at all p ++ d ∷ [])

  delta-kept : (q j : ℕ) → j < length (deltas_at all q) → delta_at pushed q j ≡ delta_at all q j
  delta-kept q j h = choose (below-or-not q (length all)) where
    choose : (q < length all) ⊎ (length all ≤ q) → delta_at pushed q j ≡ delta_at all q j
    choose (inl low) = at-set (λ (ds : List Delta). slice_index_or ds j no_delta ≡ delta_at all q j) all p (deltas_at all p ++ d ∷ []) [] q low
        (λ e. subst (λ (i : ℕ). slice_index_or (deltas_at all i ++ d ∷ []) j no_delta ≡ delta_at all q j) e (at-append (deltas_at all q) (d ∷ []) j no_delta h)) (λ _. refl)
    choose (inr high) = absurd (omega (arith, h, ap (λ (ds : List Delta). length ds) (at-past all q [] high)))

  delta-new : p < length all → delta_at pushed p (length (deltas_at all p)) ≡ d
  delta-new few = at-set (λ (ds : List Delta). slice_index_or ds (length (deltas_at all p)) no_delta ≡ d) all p (deltas_at all p ++ d ∷ []) [] p few (λ _. at-last (deltas_at all p) d no_delta) (λ n. absurd (n refl))

  delta-past : (q j : ℕ) → p < length all → length (deltas_at all q) ≤ j → (q ≡ p → j ≡ length (deltas_at all p) → ⊥) → delta_at pushed q j ≡ no_delta
  delta-past q j few high other = choose (below-or-not q (length all)) where
    choose : (q < length all) ⊎ (length all ≤ q) → delta_at pushed q j ≡ no_delta
    choose (inl low) = at-set (λ (ds : List Delta). slice_index_or ds j no_delta ≡ no_delta) all p (deltas_at all p ++ d ∷ []) [] q low
        (λ e. at-past (deltas_at all p ++ d ∷ []) j no_delta
        (let apart : j ≡ length (deltas_at all p) → ⊥ = other e in omega (arith, apart, length-push (deltas_at all p) d, high, ap (λ (i : ℕ). length (deltas_at all i)) e)))
        (λ _. at-past (deltas_at all q) j no_delta high)
    choose (inr past) =
        ap (λ (ds : List Delta). slice_index_or ds j no_delta) (at-past pushed q [] (omega (arith, past, set-length all p (deltas_at all p ++ d ∷ []))))

-- what an add brings has the row that it gives
added-row : (r : Peer) (p x : ℕ) (op : Op) (n : ℕ) → count_at r.counts p ≡ n → (v : Val) → (delta_of r p x op).added ≡ Some v → HasRow (delta_of r p x op).content.rows v (single p (suc n))
added-row r p x (Add u) n own v e = (add-row u (content_at r.contents x) p (count_at r.counts p + 1) v (single p (suc n))).1 (sym (same e), λ i. single p (let k : suc n ≡ count_at r.counts p + 1 = omega (arith, own) in k i)) where
  same : Some u ≡ Some v → u ≡ v
  same f = cc
added-row r p x (Remove u) n own v e = absurd (none-some v e)
added-row r p x (Insert u) n own v e = absurd (none-some v e)
added-row r p x (Inc by) n own v e = absurd (none-some v e)
added-row r p x (Max m) n own v e = absurd (none-some v e)
added-row r p x (Join s) n own v e = absurd (none-some v e)

pub numbered-push : (all : List (List Delta)) (r : Peer) (p x : ℕ) (op : Op) → p < length all → count_at r.counts p ≡ length (deltas_at all p) → AreNumbered all → AreNumbered (slice_set all p (deltas_at all p ++ delta_of r p x op ∷ []))
numbered-push all r p x op few own numbered q j v e = choose (below-or-not j (length (deltas_at all q))) where
  d : Delta
  d = delta_of r p x op

  Has : Delta → Type 0
  Has c = c.added ≡ Some v → HasRow c.content.rows v (single q (suc j))

  nothing : Has no_delta
  nothing f = absurd (none-some v f)

  choose : (j < length (deltas_at all q)) ⊎ (length (deltas_at all q) ≤ j) → HasRow (delta_at (pushed all p (delta_of r p x op)) q j).content.rows v (single q (suc j))
  choose (inl low) = subst (λ (c : Delta). c.added ≡ Some v → HasRow c.content.rows v (single q (suc j))) (sym (delta-kept all p (delta_of r p x op) q j low)) (numbered q j v) e
  choose (inr high) = is-new (q == p) (j == length (deltas_at all p)) refl refl where
    past : (q ≡ p → j ≡ length (deltas_at all p) → ⊥) → HasRow (delta_at (pushed all p (delta_of r p x op)) q j).content.rows v (single q (suc j))
    past other = subst (λ (c : Delta). c.added ≡ Some v → HasRow c.content.rows v (single q (suc j))) (sym (delta-past all p (delta_of r p x op) q j few high other)) (λ f. absurd (none-some v f)) e

    is-new : (b c : Bool) → (q == p) ≡ b → (j == length (deltas_at all p)) ≡ c → HasRow (delta_at (pushed all p (delta_of r p x op)) q j).content.rows v (single q (suc j))
    is-new true true f g =
        let here : q ≡ p = equal-numbers q p f in
        let last : j ≡ length (deltas_at all p) = equal-numbers j (length (deltas_at all p)) g in
        let is : delta_at (pushed all p (delta_of r p x op)) q j ≡ delta_of r p x op = (λ i. delta_at (pushed all p (delta_of r p x op)) (here i) (last i)) ∙ delta-new all p (delta_of r p x op) few in
        subst (λ (c : Delta). HasRow c.content.rows v (single q (suc j))) (sym is)
        (subst (λ (t : Tok). HasRow (delta_of r p x op).content.rows v t) (λ i. single (sym here i) (suc (sym last i)))
        (added-row r p x op (length (deltas_at all p)) own v (ap (λ (c : Delta). c.added) (sym is) ∙ e)))
    is-new true false f g = past (λ _ h. absurd (let wrong : (j == length (deltas_at all p)) ≡ true = grind (arith, nat_tests, h) in let both : true ≡ false = sym wrong ∙ g in cc))
    is-new false c f g = past (λ h _. absurd (let wrong : (q == p) ≡ true = grind (arith, nat_tests, h) in let both : true ≡ false = sym wrong ∙ f in cc))

-- ---- an update of one replica

-- what an update that binds nothing brings has tokens that are counted after it
brought-given : (r : Peer) (p x : ℕ) (op : Op) → ((s : Content) → op ≡ Join s → ⊥) → p < length r.counts → AreGiven (rows_at r.contents x) r.counts → AreGiven (delta_of r p x op).content.rows (raised r.counts p)
brought-given r p x (Add u) free low given v t h =
    let key = (add-row u (content_at r.contents x) p (count_at r.counts p + 1) v t).0 h in
    subst (IsGiven (raised r.counts p)) (sym key.1) (omega arith, omega (arith, raised-own r.counts p low))
brought-given r p x (Remove u) free low given v t h =
    let key = (remove-row u (content_at r.contents x) p (count_at r.counts p + 1) v t).0 h in
    given-raised r.counts p t low (given u t key.1)
brought-given r p x (Insert u) free low given v t h = absurd (omega (arith, h))
brought-given r p x (Inc by) free low given v t h = absurd (omega (arith, h))
brought-given r p x (Max n) free low given v t h = absurd (omega (arith, h))
brought-given r p x (Join s) free low given v t h = absurd (free s refl)

updated-given : (r : Peer) (p x : ℕ) (op : Op) → ((s : Content) → op ≡ Join s → ⊥) → p < length r.counts → x < length r.contents
    → (y : ℕ) → y < length r.contents → AreGiven (rows_at r.contents x) r.counts → AreGiven (rows_at r.contents y) r.counts → AreGiven (rows_at (updated p x op r).contents y) (raised r.counts p)
updated-given r p x op free low declared y in_range given_x given =
    at-set (λ (s : Content). AreGiven s.rows (raised r.counts p)) r.contents x (join_contents (content_at r.contents x) (delta_of r p x op).content) least y in_range here (λ _ v t h. given-raised r.counts p t low (given v t h)) where
      here : y ≡ x → AreGiven (join (rows_at r.contents x) (delta_of r p x op).content.rows) (raised r.counts p)
      here e v t h = choose (has-either (rows_at r.contents x) (delta_of r p x op).content.rows v t h) where
        choose : HasRow (rows_at r.contents x) v t ⊎ HasRow (delta_of r p x op).content.rows v t → IsGiven (raised r.counts p) t
        choose (inl a) = given-raised r.counts p t low (given_x v t a)
        choose (inr b) = brought-given r p x op free low given_x v t b

-- ---- the invariant

pub record Counted (nodes : ℕ) (f : Followed) : Type 0 where
  pub numbered : AreNumbered f.deltas
  pub peers : (p : ℕ) → p < nodes → AreCovered f.run.graph nodes f.deltas (peer_at f.run.peers p).counts
  pub messages : (i : ℕ) → AreCovered f.run.graph nodes f.deltas (sent_number f.run.sent i).counts

-- an act that binds nothing
abbrev pub IsFreeAct : Act → Type 0
IsFreeAct (Update p x op) = (s : Content) → op ≡ Join s → ⊥
IsFreeAct _ = Unit {0}

covered-none : (g : List Decl) (nodes : ℕ) (all : List (List Delta)) → AreCovered g nodes all []
covered-none g nodes all x low = given-least (known g nodes all [] x) nodes (kind_at g x) [] (known-nothing g nodes all x)

covered-kept : (g : List Decl) (nodes : ℕ) (all : List (List Delta)) (p : ℕ) (d : Delta) (cs : List ℕ) → AreMade all cs → AreCovered g nodes all cs → AreCovered g nodes (slice_set all p (deltas_at all p ++ d ∷ [])) cs
covered-kept g nodes all p d cs made covered x low = subst (λ (s : Content). AreGiven s.rows cs) (sym (known-kept g nodes all p d cs made x)) (covered x low)

module _ (nodes : ℕ) (f : Followed) (s : IsSound nodes f) (c : Counted nodes f) where
  -- what is known is what is held
  held-given : (p x : ℕ) → p < nodes → x < length f.run.graph → AreGiven (rows_at (peer_at f.run.peers p).contents x) (peer_at f.run.peers p).counts
  held-given p x member low = subst (λ (k : Content). AreGiven k.rows (peer_at f.run.peers p).counts) (sym ((s.holds p member).knows x low)) (c.peers p member x low)

  pub counted-update : (p x : ℕ) (op : Op) → p < nodes → x < length f.run.graph → ((t : Content) → op ≡ Join t → ⊥) → Counted nodes (followed f (Update p x op))
  counted-update p x op member low free = record {
    numbered = numbered-push f.deltas r p x op few (s.own p member) c.numbered;
    peers = λ q in_range. at-set (λ (z : Peer). AreCovered f.run.graph nodes more z.counts) f.run.peers p (updated p x op r) no_peer q (omega (arith, in_range, s.many)) (λ _. own) (λ _. covered-kept f.run.graph nodes f.deltas p d (peer_at f.run.peers q).counts (s.holds q in_range).made (c.peers q in_range));
    messages = λ i. covered-kept f.run.graph nodes f.deltas p d (sent_number f.run.sent i).counts (s.carries i).made (c.messages i);
  } where
    r : Peer
    r = peer_at f.run.peers p

    d : Delta
    d = delta_of (peer_at f.run.peers p) p x op

    more : List (List Delta)
    more = slice_set f.deltas p (deltas_at f.deltas p ++ delta_of (peer_at f.run.peers p) p x op ∷ [])

    few : p < length f.deltas
    few = omega (arith, member, s.logs)

    own : AreCovered f.run.graph nodes more (updated p x op (peer_at f.run.peers p)).counts
    own y in_range =
        let holds = s.holds p member in
        subst (λ (k : Content). AreGiven k.rows (raised (peer_at f.run.peers p).counts p)) ((own-holds f.run.graph nodes f.deltas p (delta_of (peer_at f.run.peers p) p x op) (peer_at f.run.peers p).contents (peer_at f.run.peers p).counts holds few member (s.own p member)).knows y in_range)
        (updated-given (peer_at f.run.peers p) p x op free (omega (arith, member, holds.wide)) (omega (arith, low, holds.long)) y (omega (arith, in_range, holds.long)) (held-given p x member low) (held-given p y member in_range))

  pub counted-take : (p i : ℕ) → Counted nodes (followed f (Take p i))
  counted-take p i = record {
    numbered = c.numbered;
    peers = λ q in_range. at-set (λ (z : Peer). AreCovered f.run.graph nodes f.deltas z.counts) f.run.peers p (delivered f.run.graph (sent_number f.run.sent i) (peer_at f.run.peers p)) no_peer q (omega (arith, in_range, s.many))
        (λ e x low. subst (λ (k : Content). AreGiven k.rows (larger (peer_at f.run.peers p).counts (sent_number f.run.sent i).counts)) (sym (known-larger f.run.graph nodes f.deltas (peer_at f.run.peers p).counts (sent_number f.run.sent i).counts x))
        (given-join (known f.run.graph nodes f.deltas (peer_at f.run.peers p).counts x).rows (known f.run.graph nodes f.deltas (sent_number f.run.sent i).counts x).rows (peer_at f.run.peers p).counts (sent_number f.run.sent i).counts (c.peers p (omega (arith, in_range, e)) x low) (c.messages i x low)))
        (λ _. c.peers q in_range);
    messages = c.messages;
  }

  pub counted-post : (p : ℕ) → Counted nodes (followed f (Post p))
  counted-post p = record {
    numbered = c.numbered;
    peers = c.peers;
    messages = at-push (λ m. AreCovered f.run.graph nodes f.deltas m.counts) f.run.sent (message_at f.run.graph (peer_at f.run.peers p)) no_message c.messages (choose (below-or-not p nodes));
  } where
    choose : (p < nodes) ⊎ (nodes ≤ p) → AreCovered f.run.graph nodes f.deltas (peer_at f.run.peers p).counts
    choose (inl h) = c.peers p h
    choose (inr h) = subst (λ (z : Peer). AreCovered f.run.graph nodes f.deltas z.counts) (sym (at-past f.run.peers p no_peer (omega (arith, h, s.many)))) (covered-none f.run.graph nodes f.deltas)

  covered-longer : (d : Decl) (cs : List ℕ) → AreCovered f.run.graph nodes f.deltas cs → AreCovered (f.run.graph ++ d ∷ []) nodes f.deltas cs
  covered-longer d cs covered = each-var f.run.graph nodes f.deltas d s.sources (λ x. AreGiven (known (f.run.graph ++ d ∷ []) nodes f.deltas cs x).rows cs)
      (λ x low. subst (λ (k : Content). AreGiven k.rows cs) (sym (known-append f.run.graph d nodes f.deltas cs x low)) (covered x low))
      (given-least (known (f.run.graph ++ d ∷ []) nodes f.deltas cs (length f.run.graph)) nodes (kind_at (f.run.graph ++ d ∷ []) (length f.run.graph)) cs (known-later f.run.graph d nodes f.deltas cs s.sources))

  counted-extend : (d : Decl) → Counted nodes (followed f (Extend d))
  counted-extend d = record {
    numbered = c.numbered;
    peers = λ p low. subst (λ (z : Peer). AreCovered (f.run.graph ++ d ∷ []) nodes f.deltas z.counts) (sym (at-map-low (extended (length f.run.peers) d) f.run.peers p no_peer no_peer (omega (arith, low, s.many))))
        (covered-longer d (peer_at f.run.peers p).counts (c.peers p low));
    messages = λ i. covered-longer d (sent_number f.run.sent i).counts (c.messages i);
  }

-- ---- the beginning

no-added : (n q j : ℕ) → delta_at (replicate n []) q j ≡ no_delta
no-added zero q j = refl
no-added (suc n) zero j = refl
no-added (suc n) (suc q) j = no-added n q j

pub counted-begin : (g : List Decl) (nodes : ℕ) → Counted nodes (begin g nodes)
counted-begin g nodes = record {
  numbered = λ q j v e. absurd (none-some v (sym (ap (λ (d : Delta). d.added) (no-added nodes q j)) ∙ e));
  peers = λ p low. subst (λ (z : Peer). AreCovered g nodes (replicate nodes []) z.counts) (sym (at-replicate nodes p (fresh_peer g nodes) no_peer low)) fresh;
  messages = λ i. covered-none g nodes (replicate nodes []);
} where
  fresh : AreCovered g nodes (replicate nodes []) (fresh_peer g nodes).counts
  fresh x low = given-least (known g nodes (replicate nodes []) (zeros nodes) x) nodes (kind_at g x) (zeros nodes)
      (ap (λ (ds : List Delta). join_all (least_of nodes (kind_at g x)) (brought_to x ds)) (first-empty nodes (zeros nodes)))

-- ---- commands

counted-calm : (nodes : ℕ) (f : Followed) (many : List Act) → AreCalm many → IsSound nodes f → Counted nodes f → Counted nodes (afters f many)
counted-calm nodes f [] h s c = c
counted-calm nodes f (Post p ∷ rest) h s c = counted-calm nodes (followed f (Post p)) rest h.1 (sound-act nodes f (Post p) s tt) (counted-post nodes f s c p)
counted-calm nodes f (Take p i ∷ rest) h s c = counted-calm nodes (followed f (Take p i)) rest h.1 (sound-act nodes f (Take p i) s tt) (counted-take nodes f s c p i)
counted-calm nodes f (a ∷ rest) h s c = absurd h.0

pub counted-step : (nodes : ℕ) (f : Followed) (k : Command) → IsSound nodes f → MayBeDone nodes (stage_of f) k → IsFree k → Counted nodes f → Counted nodes (afters f (acts f.run k))
counted-step nodes f (command.Add p x v) s h free c = counted-update nodes f s c p x (Add v) h.0.0 h.0.1 (λ t e. absurd cc)
counted-step nodes f (command.Remove p x v) s h free c = counted-update nodes f s c p x (Remove v) h.0.0 h.0.1 (λ t e. absurd cc)
counted-step nodes f (command.Insert p x v) s h free c = counted-update nodes f s c p x (Insert v) h.0.0 h.0.1 (λ t e. absurd cc)
counted-step nodes f (command.Inc p x k) s h free c = counted-update nodes f s c p x (Inc k) h.0.0 h.0.1 (λ t e. absurd cc)
counted-step nodes f (command.Max p x n) s h free c = counted-update nodes f s c p x (Max n) h.0.0 h.0.1 (λ t e. absurd cc)
counted-step nodes f (command.Mark p x) s h free c = record { numbered = c.numbered; peers = c.peers; messages = c.messages }
counted-step nodes f (command.Bind p x m) s h free c = absurd free
counted-step nodes f (command.Send p) s h free c = counted-post nodes f s c p
counted-step nodes f (command.Deliver p i) s h free c = counted-take nodes f s c p i
counted-step nodes f command.Sync s h free c = counted-calm nodes f (sync_acts (length f.run.peers) (length f.run.sent)) (calm-sync (length f.run.peers) (length f.run.sent)) s c
counted-step nodes f command.Settle s h free c = record { numbered = c.numbered; peers = c.peers; messages = c.messages }
counted-step nodes f (command.Print p x) s h free c = record { numbered = c.numbered; peers = c.peers; messages = c.messages }
counted-step nodes f (command.Read p x until) s h free c = record { numbered = c.numbered; peers = c.peers; messages = c.messages }
counted-step nodes f (command.Await p x until) s h free c = record { numbered = c.numbered; peers = c.peers; messages = c.messages }
counted-step nodes f (command.Declare d) s h free c = counted-extend nodes f s c d

pub counted-all : (nodes : ℕ) (stage : Stage) (f : Followed) (commands : List Command) → IsAt nodes stage f → AreLawful nodes stage commands → AreFree commands → Counted nodes f → Counted nodes (followed_all f commands)
counted-all nodes stage f [] at lawful free h = h
counted-all nodes stage f (k ∷ rest) at lawful free h =
    counted-all nodes (stage_after nodes stage k) (afters f (acts f.run k)) rest (step-stands nodes stage f k at lawful.0) lawful.1 free.1
    (counted-step nodes f k at.sound (subst (λ (z : Stage). MayBeDone nodes z k) at.stands lawful.0) free.0 h)

module _ (g : List Decl) (nodes : ℕ) (commands : List Command) (lawful : AreLawful nodes (opening_stage g) commands) (free : AreFree commands) where
  pub all-counted : Counted nodes (followed_all (begin g nodes) commands)
  all-counted = counted-all nodes (opening_stage g) (begin g nodes) commands (begin-at g nodes) lawful free (counted-begin g nodes)

-- ---- who counts an update has its row

pub has-counted : (nodes : ℕ) (f : Followed) (cs ds : List ℕ) (x : ℕ) → IsSound nodes f → Counted nodes f → AreMade f.deltas cs
    → HasWhatIsCounted (known f.run.graph nodes f.deltas cs x).rows cs (known f.run.graph nodes f.deltas ds x).rows
has-counted nodes f cs ds x s c made v (single q zero) some counted = absurd (known-owned f.run.graph nodes f.deltas ds x s.owned v (single q zero) some)
has-counted nodes f cs ds x s c made v (both t u) some counted = absurd (known-owned f.run.graph nodes f.deltas ds x s.owned v (both t u) some)
has-counted nodes f cs ds x s c made v (single q (suc j)) some counted =
    let owned = known-owned f.run.graph nodes f.deltas ds x s.owned v (single q (suc j)) some in
    let low : j < count_at cs q = grind (arith, nat_tests, counted) in
    let row = c.numbered q j v owned.1 in
    omega (arith, row, known-above f.run.graph nodes f.deltas cs x q j low (omega (arith, low, made q)) owned.0 (content.at_row v (single q (suc j))))

-- what a node counts and doesn't show was removed there
absent-dead : (nodes : ℕ) (f : Followed) → IsSound nodes f → Counted nodes f → (p q x : ℕ) → p < nodes → q < nodes → x < length f.run.graph
    → (v : Val) (t : Tok) → HasRow (rows_at (peer_at f.run.peers q).contents x) v t → is_counted (peer_at f.run.peers p).counts t ≡ true → (mark (rows_at (peer_at f.run.peers p).contents x) v t ≡ 1 → ⊥)
    → IsDeadIn (rows_at (peer_at f.run.peers p).contents x) v t
absent-dead nodes f s c p q x member other low v t some counted hidden =
    let theirs = subst (λ (k : Content). HasRow k.rows v t) ((s.holds q other).knows x low) some in
    let mine = has-counted nodes f (peer_at f.run.peers p).counts (peer_at f.run.peers q).counts x s c (s.holds p member).made v t theirs counted in
    let here : HasRow (rows_at (peer_at f.run.peers p).contents x) v t = subst (λ (k : Content). HasRow k.rows v t) (sym ((s.holds p member).knows x low)) mine in
    omega (arith, here, hidden, mark-small (rows_at (peer_at f.run.peers p).contents x) v t)

-- ---- the run in which nothing stops

-- each row that it has is of an update that it counts
pub rows-given : (g : List Decl) (nodes : ℕ) (commands : List Command) (run : Run) → IsUnlimited g nodes commands run → AreFree commands → (p x : ℕ) → p < nodes → x < length run.graph
    → AreGiven (rows_at (peer_at run.peers p).contents x) (peer_at run.peers p).counts
rows-given g nodes commands run is free p x member =
    subst (λ (r : Run). x < length r.graph → AreGiven (rows_at (peer_at r.peers p).contents x) (peer_at r.peers p).counts) (all-run (begin g nodes) commands ∙ sym is.reached)
    (held-given nodes (followed_all (begin g nodes) commands) (all-sound g nodes commands is.lawful) (all-counted g nodes commands is.lawful free) p x member)

pub rows-removed : (g : List Decl) (nodes : ℕ) (commands : List Command) (run : Run) → IsUnlimited g nodes commands run → AreFree commands → (p q x : ℕ) → p < nodes → q < nodes → x < length run.graph
    → (v : Val) (t : Tok) → HasRow (rows_at (peer_at run.peers q).contents x) v t → is_counted (peer_at run.peers p).counts t ≡ true → (mark (rows_at (peer_at run.peers p).contents x) v t ≡ 1 → ⊥)
    → IsDeadIn (rows_at (peer_at run.peers p).contents x) v t
rows-removed g nodes commands run is free p q x member other =
    subst (λ (r : Run). x < length r.graph → (v : Val) (t : Tok) → HasRow (rows_at (peer_at r.peers q).contents x) v t → is_counted (peer_at r.peers p).counts t ≡ true
    → (mark (rows_at (peer_at r.peers p).contents x) v t ≡ 1 → ⊥) → IsDeadIn (rows_at (peer_at r.peers p).contents x) v t) (all-run (begin g nodes) commands ∙ sym is.reached)
    (absent-dead nodes (followed_all (begin g nodes) commands) (all-sound g nodes commands is.lawful) (all-counted g nodes commands is.lawful free) p q x member other)

pub ruleset counted = (rows-given, rows-removed)
