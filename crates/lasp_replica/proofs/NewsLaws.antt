-- The new rows of a set alone, joined into a state, make of it what the whole set makes of it.
use Rattle.std.proofs.Common.{◌≡◌, ℕ, ◌≤◌, ◌<◌, ◌↔◌, nat_lt, true, false, IsTrue, IsFalse, List, [], ◌∷◌, Some, length, slice_set, refl, sym, ap, subst, ◌∙◌, arith}
use Rattle.std.specs.Prelude.{slice_get}
use Rattle.model_values.specs.Row.{Row}
use Rattle.model_sets.specs.Equations.{changed}
use Rattle.model_states.specs.Content.{Content, join_contents, of_set, size_of, row_limit, IsOrdered, IsContentAtMost}
use Rattle.model_states.specs.Threshold.{Shape, set}
use Rattle.lasp_replica.specs.Parts.{news_of, AreRowsOf}
use Rattle.lasp_replica.proofs.ReadLaws.{news-none}
use Rattle.lasp_replica.proofs.FinishLaws.{none-counted}
use Rattle.lasp_replica.specs.Kept.{Kept}
use Rattle.model_sets.proofs.RiseLaws.{join-news}
use Rattle.lasp_state.specs.declared.state.State.{State}
use Rattle.lasp_state.specs.declared.state.State.TheVariants as state
use Rattle.lasp_state.specs.State.{content_of, shape_of}
use Rattle.lasp_graph.specs.States.{Held, held_of, held_at, grown, AreJoinable}
use Rattle.lasp_graph.proofs.DeltaLaws.{set-flat}
use Rattle.lasp_replica.specs.Delivery.{IsTaken}
use Rattle.lasp_replica.proofs.TakenLaws.{held-here, joined-set, taken-still}
use Rattle.lasp_logset.proofs.BehindLaws.{all-new as new-behind}

-- to a set without rows each row is new
pub all-new : (before after : List Row) → length before ≡ 0 → changed before after ≡ after
all-new [] after e = new-behind after
all-new (r ∷ before) after e = absurd cc

-- the new rows alone give the same join
join-rows : (s t : Content) → t ≡ of_set t.rows → join_contents s (of_set (changed s.rows t.rows)) ≡ join_contents s t
join-rows s t flat =
    ap (λ (rows : List Row). record { rows = rows; values = (join_contents s (of_set t.rows)).values; counts = (join_contents s (of_set t.rows)).counts; top = (join_contents s (of_set t.rows)).top }) (join-news s.rows t.rows)
    ∙ sym (ap (join_contents s) flat)

-- the new rows alone, as the state of a set, join in as all of the other set does
pub rows-joined : (s t : State) (rows : List Row) → shape_of s ≡ set → shape_of s ≡ shape_of t → rows ≡ news_of (shape_of s) (content_of s) (content_of t) → join_contents (content_of s) (of_set rows) ≡ join_contents (content_of s) (content_of t)
rows-joined s t rows kind alike news =
    ap (λ (z : List Row). join_contents (content_of s) (of_set z)) (news ∙ ap (λ (shape : Shape). news_of shape (content_of s) (content_of t)) kind)
    ∙ join-rows (content_of s) (content_of t) (set-flat t (sym alike ∙ kind))

module _ (old : List Held) (x : ℕ) (now : State) (there : slice_get old x ≡ Some (held_of now)) (sent : State) (alike : (held_at old x).shape ≡ shape_of sent) (kind : shape_of sent ≡ set) where
  here : held_at old x ≡ held_of now
  here = held-here old x now there

  -- the state is of the shape that comes
  pub same-shape : shape_of now ≡ shape_of sent
  same-shape = ap (λ (h : Held). h.shape) (sym here) ∙ alike

  -- so it is a set
  pub set-here : shape_of now ≡ set
  set-here = same-shape ∙ kind

  new-rows : (rows : List Row) → rows ≡ news_of (shape_of now) (content_of now) (content_of sent) → rows ≡ changed (content_of now).rows (content_of sent).rows
  new-rows rows news = news ∙ ap (λ (shape : Shape). news_of shape (content_of now) (content_of sent)) set-here

  same-join : (rows : List Row) → rows ≡ news_of (shape_of now) (content_of now) (content_of sent) → join_contents (content_of now) (of_set rows) ≡ join_contents (content_of now) (content_of sent)
  same-join rows news = rows-joined now sent rows set-here same-shape news

  -- the new rows may be joined in
  pub rows-joinable : (rows : List Row) → AreJoinable (held_at old x) (held_of (state.Set rows))
  rows-joinable rows = record {
    shape = alike ∙ kind;
    nested = λ e. absurd (let both : set ≡ _ = sym (alike ∙ kind) ∙ e in cc);
  }

  -- the join is as large with the new rows alone
  pub size-news : (rows : List Row) → rows ≡ news_of (shape_of now) (content_of now) (content_of sent) → (size : ℕ) → size ≡ size_of (join_contents (content_of now) (of_set rows)) → size ≡ size_of (join_contents (held_at old x).content (content_of sent))
  size-news rows news size is = is ∙ ap size_of (same-join rows news) ∙ ap (λ (h : Held). size_of (join_contents h.content (content_of sent))) (sym here)

  -- no row is new
  pub taken-none : (rows : List Row) → rows ≡ news_of (shape_of now) (content_of now) (content_of sent) → (history : Kept) → length rows ≡ 0 → IsOrdered (content_of now) → size_of (held_at old x).content ≤ row_limit → IsTaken old x (content_of sent) false old history
  taken-none rows news history none ordered small = taken-still old x now there sent history same-shape ordered ((news-none (content_of now) (content_of sent) (set-flat sent kind)).0 (sym (new-rows rows news) ∙ no-rows rows none)) small where
    no-rows : (z : List Row) → length z ≡ 0 → z ≡ []
    no-rows [] e = refl
    no-rows (r ∷ z) e = absurd (omega (arith, e))

  -- the state grew by the new rows
  pub taken-news : (rows : List Row) → rows ≡ news_of (shape_of now) (content_of now) (content_of sent) → (new : List Held) (history : Kept) (size : ℕ) → x < length old → (length rows ≡ 0 → ⊥)
      → size ≡ size_of (join_contents (content_of now) (of_set rows)) → size ≤ row_limit
      → IsTrue history.prepared → AreRowsOf rows history.pending → new ≡ slice_set old x (grown (held_at old x) (held_of (state.Set rows))) → IsTaken old x (content_of sent) true new history
  taken-news rows news new history size low some is within prepared pending placed = record {
    joined = joined-set old new x (grown (held_at old x) (held_of (state.Set rows))) (content_of sent) low placed refl
        (subst (λ (h : Held). join_contents h.content (of_set rows) ≡ join_contents h.content (content_of sent)) (sym here) (same-join rows news));
    ready = record {
      still = λ t. absurd (let both : true ≡ false = t in cc);
      grew = λ t below. some (ap length (new-rows rows news ∙ (news-none (content_of now) (content_of sent) (set-flat sent kind)).1 (subst (λ (h : Held). IsContentAtMost (content_of sent) h.content) here below)));
      prepared = λ t. prepared;
      pending = λ t. subst (λ (z : List Row). AreRowsOf z history.pending) (news ∙ ap (λ (h : Held). news_of h.shape h.content (content_of sent)) (sym here)) pending;
    };
    small = subst (λ (n : ℕ). n ≤ row_limit) (size-news rows news size is) within;
  }

-- of a set there is something new exactly where the other one isn't at most it
pub news-tell : (s t : State) (rows : List Row) (n : ℕ) → shape_of t ≡ set → shape_of s ≡ shape_of t → rows ≡ news_of (shape_of s) (content_of s) (content_of t) → n ≡ length rows
    → IsFalse (nat_lt 0 n) ↔ IsContentAtMost (content_of t) (content_of s)
news-tell s t rows n kind alike news many = (
  λ still. none.0 (sym brings ∙ (none-counted rows n many).0 still),
  λ low. (none-counted rows n many).1 (brings ∙ none.1 low),
) where
  brings : rows ≡ changed (content_of s).rows (content_of t).rows
  brings = news ∙ ap (λ (shape : Shape). news_of shape (content_of s) (content_of t)) (alike ∙ kind)

  none : (changed (content_of s).rows (content_of t).rows ≡ []) ↔ IsContentAtMost (content_of t) (content_of s)
  none = news-none (content_of s) (content_of t) (set-flat t kind)
