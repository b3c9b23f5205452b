-- Laws of what is kept of messages for those who have the ones before.
use Rattle.std.proofs.Common.{◌≡◌, ℕ, ◌+◌, ◌<◌, ◌≤◌, ◌⊎◌, inl, inr, IsTrue, List, [], ◌∷◌, ◌++◌, length, slice_get, slice_set, Option, Some, None, IfSome, get_or, arith, refl, sym, ap, subst, ◌∙◌}
use Rattle.std.specs.Arc.{arc_value}
use Rattle.std.proofs.lemmas.Option.{slice_get_within, slice_get_read}
use Rattle.model_states.specs.Content.{Content, join_contents, least}
use Rattle.model_states.specs.Counts.{AreCountsAtMost}
use Rattle.model_states.proofs.ContentLaws.{join-nothing, join-associative}
use Rattle.model_graph.specs.Graph.{Decl, Kind, is_source, kind_at}
use Rattle.model_graph.specs.Evaluation.{content_at}
use Rattle.model_graph.proofs.PlaceLaws.{below-or-not, at-append, at-last, at-past, length-push}
use Rattle.model_graph.specs.Message.{Message, Sent, source_number, sent_at, content_since}
use Rattle.model_graph.proofs.MessageLaws.{sent-is, sent-past, number-append}
use Rattle.model_world.proofs.VariableLaws.{kind-append}
use Rattle.model_world.proofs.KnowsLaws.{known-covered}
use Rattle.model_world.specs.World.{Run, message_at, no_message, peer_at, sent_number}
use Rattle.model_runs.specs.Part.{BringsAsMuch, IsTail}
use Rattle.lasp_drive.specs.Since.{message_since, HasSince}
use Rattle.lasp_drive.specs.Node.{NodeView, Posted, Sends, IsTailOf, HaveSentNothing}
use Rattle.lasp_drive.specs.Marks.{AllGrow}
use Rattle.lasp_drive.specs.Tails.{IsBehind, IsPosted, AreTailed}
use Rattle.lasp_drive.specs.Driver.{IsRunKnown}
use Rattle.lasp_drive.specs.declared.node.Tail.{Tail}
use Rattle.lasp_drive.proofs.NodeLaws.{at-set}
use Rattle.lasp_drive.proofs.PointLaws.{at-push}
use Rattle.lasp_drive.proofs.SinceLaws.{HaveSince, each-since, since-named, since-long}

-- ---- before the first message, and while none is sent

pub tailed-start : (g : List Decl) (nodes : List NodeView) → HaveSentNothing nodes → AreTailed g nodes [] []
tailed-start g nodes none = record {
  many = refl;
  each = λ i t at. absurd cc;
  last = λ p n s at is. absurd (let both : None ≡ Some s = sym (none p n at) ∙ is in cc);
}

pub tailed-grow : (g : List Decl) (old new : List NodeView) (sent : List Message) (tails : List (Option Tail)) → AllGrow old new → AreTailed g old sent tails → AreTailed g new sent tails
tailed-grow g old new sent tails grow tailed = record {
  many = tailed.many;
  each = tailed.each;
  last = λ p n s at is. let was = grow p n at in tailed.last p was.0 s was.1 (sym was.3 ∙ is);
}

-- what is kept of a message that was sent stands behind the one before
pub kept-behind : (g : List Decl) (nodes : List NodeView) (sent : List Message) (tails : List (Option Tail)) (i : ℕ) (kept : Option Tail) (t : Tail) → AreTailed g nodes sent tails → i < length sent → kept ≡ get_or tails i kept → kept ≡ Some t → IsBehind g sent i t
kept-behind g nodes sent tails i kept t tailed low read is = tailed.each i t (slice_get_read tails (length tails) i kept refl (omega (arith, low, tailed.many)) read ∙ ap (λ (x : Option Tail). Some x) is)

-- ---- a message more

module _ (g : List Decl) (sent : List Message) (m : Message) where
  abbrev more : List Message
  more = sent ++ m ∷ []

  -- the messages before are those that they were
  stays : (i : ℕ) → i < length sent → sent_number more i ≡ sent_number sent i
  stays i low = at-append sent (m ∷ []) i no_message low

  newest : sent_number more (length sent) ≡ m
  newest = at-last sent m no_message

  behind-later : (i : ℕ) (t : Tail) → i < length sent → IsBehind g sent i t → IsBehind g more i t
  behind-later i t low b = record {
    place = omega (arith, b.place, length-push sent m);
    exact = b.exact ∙ (λ j. message_since (sym (stays t.before b.place) j) (sym (stays i low) j));
    joins = λ x known source.
        ap (λ (k : Message). join_contents (sent_at k.sources (source_number g x)) (sent_at (arc_value t.rows).sources (source_number g x))) (stays t.before b.place)
        ∙ b.joins x known source ∙ ap (λ (k : Message). sent_at k.sources (source_number g x)) (sym (stays i low));
  }

  posted-later : (s : Posted) → IsPosted g sent s → IsPosted g more s
  posted-later s is = record {
    place = omega (arith, is.place, length-push sent m);
    few = is.few;
    holds = λ x low source. ap (λ (k : Message). sent_at k.sources (source_number g x)) (stays s.number is.place) ∙ is.holds x low source;
  }

  module _ (n : NodeView) (long : length n.peer.contents ≡ length g) (whole : m ≡ message_at g n.peer) where
    -- what the message has of a source its sender holds
    has : (x : ℕ) → x < length g → IsTrue (is_source (kind_at g x)) → sent_at (sent_number more (length sent)).sources (source_number g x) ≡ content_at n.peer.contents x
    has x low source = ap (λ (k : Message). sent_at k.sources (source_number g x)) (newest ∙ whole) ∙ sent-is g n.peer.contents x low long source

    newest-posted : (s : Posted) → s ≡ record { number = length sent; contents = n.peer.contents } → IsPosted g more s
    newest-posted s is = subst (IsPosted g more) (sym is) (record { place = omega (arith, length-push sent m); few = omega (arith, long); holds = has })

    newest-behind : (t : Tail) → n.decls ≡ g → IsTailOf n t → ((s : Posted) → n.sent ≡ Some s → IsPosted g sent s) → IsBehind g more (length sent) t
    newest-behind t graph tail posted = record {
      place = omega (arith, tail.number, before.place, length-push sent m);
      exact = since ∙ (λ j. message_since (sym earlier j) (sym (newest ∙ whole) j));
      joins = λ x low source.
          ap (λ (c : Content). join_contents c (sent_at (arc_value t.rows).sources (source_number g x))) (ap (λ (k : Message). sent_at k.sources (source_number g x)) earlier ∙ before.holds x low source)
          ∙ rows.joins x low source ∙ sym (has x low source);
    } where
      before : IsPosted g sent tail.posted
      before = posted tail.posted tail.sent

      rows : IsTail g tail.posted.contents n.peer.contents (message_at g n.peer) (arc_value t.rows)
      rows = subst (λ (h : List Decl). IsTail h tail.posted.contents n.peer.contents (message_at h n.peer) (arc_value t.rows)) graph tail.rows

      then : Message
      then = sent_number sent tail.posted.number

      earlier : sent_number more t.before ≡ then
      earlier = ap (λ (i : ℕ). sent_number more i) tail.number ∙ stays tail.posted.number before.place

      has_since : HasSince g tail.posted.contents n.peer.contents (arc_value t.rows)
      has_since = subst (λ (h : List Decl). HasSince h tail.posted.contents n.peer.contents (arc_value t.rows)) graph tail.exact

      each : HaveSince then.sources g n.peer.contents 0 (arc_value t.rows).sources
      each x low source = has_since x low source ∙ ap (λ (c : Content). content_since (kind_at g x) c (content_at n.peer.contents x)) (sym (before.holds x low source) ∙ ap (λ (k : ℕ). sent_at then.sources k) (let start : source_number g x ≡ 0 + source_number g x = omega arith in start))

      since : arc_value t.rows ≡ message_since then (message_at g n.peer)
      since = λ j. record { counts = rows.counts j; sources = each-since then.sources g n.peer.contents 0 (arc_value t.rows).sources long rows.named each j }

-- a node sent what it holds
pub tailed-post : (g : List Decl) (nodes : List NodeView) (sent : List Message) (tails : List (Option Tail)) (p : ℕ) (n new : NodeView) (m : Message) (t : Option Tail) → AreTailed g nodes sent tails → slice_get nodes p ≡ Some n → n.decls ≡ g
    → length n.peer.contents ≡ length g → m ≡ message_at g n.peer → IfSome t (IsTailOf n) → Sends (length sent) n new → AreTailed g (slice_set nodes p new) (sent ++ m ∷ []) (tails ++ t ∷ [])
tailed-post g nodes sent tails p n new m t tailed at graph long whole tail sends = record {
  many = omega (arith, tailed.many, length-push sent m, length-push tails t);
  each = λ i u there. at-push (λ i x. (u : Tail) → x ≡ Some u → IsBehind g (sent ++ m ∷ []) i u) tails t
      (λ i x here u is. behind-later g sent m i u (omega (arith, slice_get_within tails i x here, tailed.many)) (tailed.each i u (here ∙ ap (λ (x : Option Tail). Some x) is)))
      (λ u is. subst (λ (i : ℕ). IsBehind g (sent ++ m ∷ []) i u) (sym tailed.many)
      (newest-behind g sent m n long whole u graph (subst (λ (x : Option Tail). IfSome x (IsTailOf n)) is tail) (λ s told. tailed.last p n s at told)))
      i (Some u) there u refl;
  last = λ q k s there is. at-set (λ q (k : NodeView). (s : Posted) → k.sent ≡ Some s → IsPosted g (sent ++ m ∷ []) s) nodes p new
      (λ q k _ here s told. posted-later g sent m s (tailed.last q k s here told))
      (λ s told. newest-posted g sent m n long whole s (subst (λ (x : Option Posted). IfSome x (λ s. s ≡ record { number = length sent; contents = n.peer.contents })) told sends.sent))
      q k there s is;
}

-- ---- a declaration more

module _ (g : List Decl) (d : Decl) (sent : List Message) (short : (i : ℕ) → length (sent_number sent i).sources ≤ source_number g (length g)) where
  abbrev longer : List Decl
  longer = g ++ d ∷ []

  place-stays : (x : ℕ) → x ≤ length g → source_number longer x ≡ source_number g x
  place-stays x low = number-append g (d ∷ []) x low

  source-stays : (x : ℕ) → x < length g → IsTrue (is_source (kind_at longer x)) → IsTrue (is_source (kind_at g x))
  source-stays x low source = subst (λ (k : Kind). IsTrue (is_source k)) (kind-append g (d ∷ []) x low) source

  -- no message has the new source
  past : (sources : List Sent) → length sources ≤ source_number g (length g) → sent_at sources (source_number longer (length g)) ≡ least
  past sources few = sent-past sources (source_number longer (length g)) (omega (arith, few, place-stays (length g) (omega arith)))

  every : (P : ℕ → Type 0) → ((x : ℕ) → x < length g → P x) → P (length g) → (x : ℕ) → x < length longer → P x
  every P earlier new x low = choose (below-or-not x (length g)) where
    choose : (x < length g) ⊎ (length g ≤ x) → P x
    choose (inl h) = earlier x h
    choose (inr h) = subst P (let here : length g ≡ x = omega (arith, h, low, length-push g d) in here) new

  behind-longer : (i : ℕ) (t : Tail) → IsBehind g sent i t → IsBehind longer sent i t
  behind-longer i t b = record {
    place = b.place;
    exact = b.exact;
    joins = every (λ x. IsTrue (is_source (kind_at longer x)) → join_contents (before (source_number longer x)) (rows (source_number longer x)) ≡ now (source_number longer x))
        (λ x low source. let under : x ≤ length g = omega (arith, low) in
        ap (λ (k : ℕ). join_contents (before k) (rows k)) (place-stays x under) ∙ b.joins x low (source-stays x low source) ∙ ap now (sym (place-stays x under)))
        (λ source. (λ i. join_contents (past (sent_number sent t.before).sources (short t.before) i) (past (arc_value t.rows).sources narrow i)) ∙ join-nothing least (record { rows = refl; values = refl }) ∙ sym (past (sent_number sent i).sources (short i)));
  } where
    before : ℕ → Content
    before k = sent_at (sent_number sent t.before).sources k

    rows : ℕ → Content
    rows k = sent_at (arc_value t.rows).sources k

    now : ℕ → Content
    now k = sent_at (sent_number sent i).sources k

    narrow : length (arc_value t.rows).sources ≤ source_number g (length g)
    narrow = omega (arith, short i, since-long (sent_number sent t.before) (sent_number sent i) (arc_value t.rows) b.exact)

  posted-longer : (s : Posted) → IsPosted g sent s → IsPosted longer sent s
  posted-longer s is = record {
    place = is.place;
    few = omega (arith, is.few, length-push g d);
    holds = every (λ x. IsTrue (is_source (kind_at longer x)) → sent_at (sent_number sent s.number).sources (source_number longer x) ≡ content_at s.contents x)
        (λ x low source. ap (λ (k : ℕ). sent_at (sent_number sent s.number).sources k) (place-stays x (omega (arith, low))) ∙ is.holds x low (source-stays x low source))
        (λ source. past (sent_number sent s.number).sources (short s.number) ∙ sym (at-past s.contents (length g) least is.few));
  }

  pub tailed-extend : (nodes : List NodeView) (tails : List (Option Tail)) → AreTailed g nodes sent tails → AreTailed longer nodes sent tails
  tailed-extend nodes tails tailed = record {
    many = tailed.many;
    each = λ i t at. behind-longer i t (tailed.each i t at);
    last = λ p n s at is. posted-longer s (tailed.last p n s at is);
  }

-- the messages of a run have no more sources than its graph
pub short-sent : (many : ℕ) (run : Run) → IsRunKnown many run → (i : ℕ) → length (sent_number run.sent i).sources ≤ source_number run.graph (length run.graph)
short-sent many run k i = (k.1.carries i).few

-- ---- who takes what came since

-- what came since a message of which all counts are counted
pub brings-tail : (many : ℕ) (run : Run) → IsRunKnown many run → (p i : ℕ) → p < many → (t : Tail) → IsBehind run.graph run.sent i t → AreCountsAtMost (sent_number run.sent t.before).counts (peer_at run.peers p).counts
    → BringsAsMuch run.graph (peer_at run.peers p).contents (sent_number run.sent i) (arc_value t.rows)
brings-tail many run k p i member t b counted = record {
  wide = ap (λ (k : Message). length k.counts) b.exact;
  begins = λ begins. (begins.0, ap (λ (ds : List Decl). ds ++ begins.0) (since-named (sent_number run.sent t.before) (sent_number run.sent i) (arc_value t.rows) b.exact) ∙ begins.1);
  brings = λ x low source.
      let held = content_at (peer_at run.peers p).contents x in
      let before = sent_at (sent_number run.sent t.before).sources (source_number run.graph x) in
      let rows = sent_at (arc_value t.rows).sources (source_number run.graph x) in
      let covered : join_contents held before ≡ held = known-covered many run.graph run.peers run.sent k.0 k.1 p t.before x member low source counted in
      ap (λ (c : Content). join_contents c rows) (sym covered) ∙ join-associative held before rows ∙ ap (join_contents held) (b.joins x low source);
}
