-- A message that brings as much as another one leaves what that one leaves.
use Rattle.std.proofs.Common.{◌≡◌, ℕ, suc, ◌+◌, ◌<◌, max, Bool, true, false, if◌then◌else◌, nat_lt, IsTrue, List, [], ◌∷◌, length, Option, Some, None, Result, Ok, Err, pos, refl, sym, ap, subst, ◌∙◌, arith}
use Rattle.std.specs.Result.{IsErrAnd}
use Rattle.std.proofs.lemmas.Bool.Decides.{nat_tests}
use Rattle.model_values.specs.Row.{Row}
use Rattle.model_sets.specs.Rows.{IsAscending, join, mark}
use Rattle.model_sets.specs.Equations.{changed}
use Rattle.model_sets.proofs.RowLaws.{mark-join, same_from_mark}
use Rattle.model_sets.proofs.EquationLaws.{changed-mark, ascending-changed}
use Rattle.model_states.specs.Content.{Content, least, join_contents, IsContentAtMost, IsOrdered}
use Rattle.model_states.specs.Threshold.{Shape, set, grow, counter, register, fold}
use Rattle.model_states.proofs.ContentLaws.{at_most-itself, at_most-chain, join-right, join-least}
use Rattle.model_graph.specs.Graph.{Decl, is_source, kind_at}
use Rattle.model_graph.specs.Evaluation.{content_at, first_large}
use Rattle.model_graph.proofs.PlaceLaws.{at-map, map-length}
use Rattle.model_graph.specs.Message.{Message, sent_at, source_number, brought, with_gain, gained}
use Rattle.model_runs.specs.Part.{BringsAsMuch}
use Rattle.lasp_replica.specs.Kept.{Kept}
use Rattle.lasp_graph.specs.States.{Held, held_at, contents_of}
use Rattle.lasp_replica.specs.Parts.{news_of, AreRowsOf}
use Rattle.lasp_replica.specs.Replica.{kept_at, IsOfGraph, IsDelivered}
use Rattle.lasp_replica.specs.Delivery.{grows_at, IsReady, IsReadyFor, AreJoined, IsRefused}
use Rattle.lasp_replica.specs.declared.refused.DeliverRefused.{DeliverRefused}
use Rattle.lasp_replica.specs.declared.refused.DeliverRefused.TheVariants.{WrongGraph, TooManyRows, Memory}

-- ---- one content

changed-one : (m a b : ℕ) → max m a ≡ max m b → (if nat_lt m a then a else 0) ≡ (if nat_lt m b then b else 0)
changed-one m a b e = grind (arith, nat_tests, e)

-- rows that join in the same change the same
changed-same : (s t u : List Row) → IsAscending t → IsAscending u → join s t ≡ join s u → changed s t ≡ changed s u
changed-same s t u up_t up_u e =
    same_from_mark (changed s t) (changed s u) (ascending-changed s t up_t) (ascending-changed s u up_u)
    (λ v w. changed-mark s t v w ∙ changed-one (mark s v w) (mark t v w) (mark u v w) (sym (mark-join s t v w) ∙ ap (λ (rows : List Row). mark rows v w) e ∙ mark-join s u v w) ∙ sym (changed-mark s u v w))

news-same : (shape : Shape) (s t u : Content) → IsOrdered t → IsOrdered u → join_contents s t ≡ join_contents s u → news_of shape s t ≡ news_of shape s u
news-same set s t u up_t up_u e = changed-same s.rows t.rows u.rows up_t.rows up_u.rows (ap (λ (c : Content). c.rows) e)
news-same grow s t u up_t up_u e = refl
news-same (counter n) s t u up_t up_u e = refl
news-same register s t u up_t up_u e = refl
news-same fold s t u up_t up_u e = refl

-- and what is no more is no more
covered-same : (s t u : Content) → join_contents s t ≡ join_contents s u → IsContentAtMost t s → IsContentAtMost u s
covered-same s t u e low =
    at_most-chain u (join_contents s t) s (subst (IsContentAtMost u) (sym e) (join-right s u)) (join-least s t s (at_most-itself s) low)

ready-same : (h : Held) (t u : Content) (grows : Bool) (history : Kept) → IsOrdered t → IsOrdered u → join_contents h.content t ≡ join_contents h.content u → IsReady h t grows history → IsReady h u grows history
ready-same h t u grows history up_t up_u e ready = record {
  still = λ no_growth. covered-same h.content t u e (ready.still no_growth);
  grew = λ growth low. ready.grew growth (covered-same h.content u t (sym e) low);
  prepared = ready.prepared;
  pending = λ growth. subst (λ (news : List Row). AreRowsOf news history.pending) (news-same h.shape h.content t u up_t up_u e) (ready.pending growth);
}

-- of a variable that gains, if it is a source
module _ (h : Held) (t u : Content) (up_t : IsOrdered t) (up_u : IsOrdered u) where
  gain-as : (b : Bool) → (IsTrue b → join_contents h.content t ≡ join_contents h.content u) → with_gain h.content (if b then Some t else None) ≡ with_gain h.content (if b then Some u else None)
  gain-as true e = e refl
  gain-as false e = refl

  ready-as : (b : Bool) (grows : Bool) (history : Kept) → (IsTrue b → join_contents h.content t ≡ join_contents h.content u) → IsReadyFor h (if b then Some t else None) grows history → IsReadyFor h (if b then Some u else None) grows history
  ready-as true grows history e ready = ready-same h t u grows history up_t up_u (e refl) ready
  ready-as false grows history e ready = ready

-- ---- all contents

gained-same : (f g : ℕ → Option Content) (x : ℕ) (contents : List Content) → ((y : ℕ) → y < length contents → with_gain (content_at contents y) (f (x + y)) ≡ with_gain (content_at contents y) (g (x + y))) → gained f x contents ≡ gained g x contents
gained-same f g x [] same = refl
gained-same f g x (s ∷ contents) same =
    let here : with_gain s (f x) ≡ with_gain s (g x) = subst (λ (i : ℕ). with_gain s (f i) ≡ with_gain s (g i)) (let at : x + 0 ≡ x = omega arith in at) (same 0 (omega arith)) in
    let rest : gained f (x + 1) contents ≡ gained g (x + 1) contents =
    gained-same f g (x + 1) contents (λ y low. subst (λ (i : ℕ). with_gain (content_at contents y) (f i) ≡ with_gain (content_at contents y) (g i)) (let at : x + suc y ≡ (x + 1) + y = omega arith in at) (same (suc y) (omega (arith, low)))) in
    λ i. here i ∷ rest i

module _ (g : List Decl) (m part : Message) (old new : List Held) (histories : List Kept) (grow : List Bool) (long : length old ≡ length g) (much : BringsAsMuch g (contents_of old) m part) (up_part : (i : ℕ) → IsOrdered (sent_at part.sources i)) (up_m : (i : ℕ) → IsOrdered (sent_at m.sources i)) where
  here : (y : ℕ) → content_at (contents_of old) y ≡ (held_at old y).content
  here y = at-map (λ (h : Held). h.content) old y (record { shape = set; content = least; number = pos 0 })

  joins : (y : ℕ) → y < length g → IsTrue (is_source (kind_at g y)) → join_contents (held_at old y).content (sent_at part.sources (source_number g y)) ≡ join_contents (held_at old y).content (sent_at m.sources (source_number g y))
  joins y low source = subst (λ (s : Content). join_contents s (sent_at part.sources (source_number g y)) ≡ join_contents s (sent_at m.sources (source_number g y))) (here y) (much.brings y low source)

  gains : gained (brought g part) 0 (contents_of old) ≡ gained (brought g m) 0 (contents_of old)
  gains = gained-same (brought g part) (brought g m) 0 (contents_of old) (λ y low.
      let within : y < length g = omega (arith, low, long, map-length (λ (h : Held). h.content) old) in
      subst (λ (i : ℕ). with_gain (content_at (contents_of old) y) (brought g part i) ≡ with_gain (content_at (contents_of old) y) (brought g m i)) (let at : y ≡ 0 + y = omega arith in at)
      (subst (λ (s : Content). with_gain s (brought g part y) ≡ with_gain s (brought g m y)) (sym (here y))
      (gain-as (held_at old y) (sent_at part.sources (source_number g y)) (sent_at m.sources (source_number g y)) (up_part (source_number g y)) (up_m (source_number g y)) (is_source (kind_at g y)) (joins y within))))

  -- the message was joined in where the other one was
  pub joined-whole : AreJoined g part old new histories grow → AreJoined g m old new histories grow
  joined-whole joined = record {
    contents = joined.contents ∙ gains;
    shapes = joined.shapes;
    derived = joined.derived;
    small = sym (ap (first_large 0) gains) ∙ joined.small;
    many = joined.many;
    ready = λ y low.
        ready-as (held_at old y) (sent_at part.sources (source_number g y)) (sent_at m.sources (source_number g y)) (up_part (source_number g y)) (up_m (source_number g y)) (is_source (kind_at g y)) (grows_at grow y) (kept_at histories y)
        (joins y low) (joined.ready y low);
  }

  pub refused-whole : {A : Type 0} (result : Result A DeliverRefused) → IsRefused (gained (brought g part) 0 (contents_of old)) result → IsRefused (gained (brought g m) 0 (contents_of old)) result
  refused-whole result h = subst (λ (contents : List Content). IsRefused contents result) gains h

-- what joining its sources refused, the delivery tells
pub refused-told : {A B : Type 0} (nodes : ℕ) (g : List Decl) (contents : List Content) (m : Message) (e : DeliverRefused) (one : Result A DeliverRefused) (all : Result B DeliverRefused) → one ≡ Err e → IsErrAnd all (λ y. y ≡ e)
    → IsOfGraph nodes g m → IsRefused (gained (brought g m) 0 contents) one → IsDelivered nodes g contents m all
refused-told nodes g contents m e one (Ok b) was passed of h = absurd passed
refused-told {A = A} {B = B} nodes g contents m e one (Err y) was passed of h =
    subst (λ (z : DeliverRefused). IsDelivered {A = B} nodes g contents m (Err z)) (sym passed) (told e (subst (IsRefused (gained (brought g m) 0 contents)) was h))
  where
    told : (z : DeliverRefused) → IsRefused {A = A} (gained (brought g m) 0 contents) (Err z) → IsDelivered {A = B} nodes g contents m (Err z)
    told WrongGraph r = absurd r
    told (TooManyRows x) r = (of, r)
    told Memory r = tt
