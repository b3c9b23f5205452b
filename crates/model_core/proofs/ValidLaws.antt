-- What a source may hold in a message is valid in a journal, and what every variable of a legal journal holds: how wide, how large, in which order and shape.
use Rattle.std.proofs.Common.{◌≡◌, ℕ, ℤ, zero, suc, ◌≤◌, ◌<◌, max, ◌⊎◌, inl, inr, Bool, true, false, if◌then◌else◌, List, [], ◌∷◌, length, take, Option, refl, sym, subst, arith}
use Rattle.std.specs.List.{AllByRecursion}
use Rattle.std.specs.Ordering.{eq_by_cmp}
use Rattle.model_values.specs.Value.{Val, int, text, pair, val_cmp, val_exact}
use Rattle.model_values.specs.Token.{Tok, single, both}
use Rattle.model_values.specs.Row.{Row}
use Rattle.model_values.specs.Size.{HasSmallInts, IsTokenOfWidth}
use Rattle.model_sets.specs.Values.{held, IsHeld}
use Rattle.model_sets.proofs.RowLaws.{is-Equal}
use Rattle.model_states.specs.Counts.{count_max, count_at}
use Rattle.model_states.specs.Content.{Content, least, of_set, of_grow, of_counts, of_top, size_of, row_limit, IsOrdered}
use Rattle.model_states.specs.Shape.{HasShape}
use Rattle.model_graph.specs.Graph.{Kind, OrSet, GSet, Counter, MaxReg, Union, Product, Intersection, Map, Filter, Fold, Decl, no_decl, kind_at}
use Rattle.model_graph.specs.Lawful.{width_limit, width_at, widths, shape_of}
use Rattle.model_graph.specs.Width.{HasWidth}
use Rattle.model_graph.proofs.PlaceLaws.{at-past, below-or-not}
use Rattle.model_graph.proofs.WidthLaws.{widths-length}
use Rattle.model_graph.specs.Message.{Sent}
use Rattle.model_wire.specs.Lawful.{IsSpellable, IsSourceValue, IsBase, AreRows, AreElements, AreAtMost, IsSource, IsSent}
use Rattle.model_journal.specs.Entry.{Entry, Frame}
use Rattle.model_journal.specs.Journal.{graph, vals, val}
use Rattle.model_states.specs.Register.{FitsTop}
use Rattle.model_journal.specs.Legal.{IsTokenOf, IsValidValue, IsValid, AreValidSources, IsLegal}
use Rattle.model_journal.proofs.ValidLaws.{valid-least_of}
use Rattle.model_journal.proofs.StandLaws.{journal-valid}
use Rattle.model_journal.proofs.JournalLaws.{journal-graph}
use Rattle.model_journal.proofs.WidthLaws.{narrow-at}
use Rattle.model_journal.proofs.CleanLaws.{vals-length}
use Rattle.model_journal.proofs.LegalLaws.{legal-take}
use Rattle.model_runs.proofs.SourceLaws.{row-of}

-- ---- the parts of a source

small-ints : (v : Val) → IsSpellable v → HasSmallInts v
small-ints (int n) h = h
small-ints (text t) h = tt
small-ints (pair a b) h = (small-ints a h.0, small-ints b h.1)

pub value-valid : (v : Val) → IsSourceValue v → IsValidValue 1 v
value-valid v h = (h.size, small-ints v h.parts)

token-valid : (nodes : ℕ) (t : Tok) → IsBase nodes t → IsTokenOfWidth 1 t × IsTokenOf nodes t
token-valid nodes (single q k) h = (omega arith, h)
token-valid nodes (both t s) h = absurd h

-- an element is a value of a source
element-of : (values : List Val) (v : Val) → AllByRecursion IsSourceValue values → IsHeld values v → IsSourceValue v
element-of [] v each h = absurd (omega (arith, h))
element-of (w ∷ values) v each h = choose (λ g. element-of values v each.1 g) (eq_by_cmp val_cmp v w) refl h where
  choose : (IsHeld values v → IsSourceValue v) → (b : Bool) → eq_by_cmp val_cmp v w ≡ b → max (if b then 1 else 0) (held values v) ≡ 1 → IsSourceValue v
  choose rest true e g = subst IsSourceValue (sym (val_exact v w (is-Equal (val_cmp v w) e))) each.0
  choose rest false e g = rest (omega (arith, g))

pub most-at : (most : ℕ) (cs : List ℕ) → AreAtMost most cs → (q : ℕ) → count_at cs q ≤ most
most-at most [] h q = omega arith
most-at most (c ∷ cs) h zero = h.0
most-at most (c ∷ cs) h (suc q) = most-at most cs h.1 q

-- ---- what a source may hold is valid

rows-valid : (nodes : ℕ) (rows : List Row) → AreRows nodes rows → IsValid nodes OrSet 1 (of_set rows)
rows-valid nodes rows h = record {
  ordered = record { rows = h.ascending; values = refl };
  shape = refl;
  few = omega (arith, h.few);
  values = λ v t row. value-valid v (row-of nodes rows v t h.each row).0;
  tokens = λ v t row. token-valid nodes t (row-of nodes rows v t h.each row).1;
  elements = λ v g. absurd (omega (arith, g));
  counts = λ q. omega arith;
  top = tt;
}

elements-valid : (nodes : ℕ) (values : List Val) → AreElements values → IsValid nodes GSet 1 (of_grow values)
elements-valid nodes values h = record {
  ordered = record { rows = refl; values = h.ascending };
  shape = refl;
  few = omega (arith, h.few);
  values = λ v t row. absurd (omega (arith, row));
  tokens = λ v t row. absurd (omega (arith, row));
  elements = λ v g. value-valid v (element-of values v h.each g);
  counts = λ q. omega arith;
  top = tt;
}

counts-valid : (nodes : ℕ) (cs : List ℕ) → length cs ≡ nodes → AreAtMost count_max cs → IsValid nodes Counter 1 (of_counts cs)
counts-valid nodes cs long most = record {
  ordered = record { rows = refl; values = refl };
  shape = (refl, long);
  few = omega arith;
  values = λ v t row. absurd (omega (arith, row));
  tokens = λ v t row. absurd (omega (arith, row));
  elements = λ v g. absurd (omega (arith, g));
  counts = λ q. most-at count_max cs most q;
  top = tt;
}

register-valid : (nodes : ℕ) (t : Option ℤ) → FitsTop t → IsValid nodes MaxReg 1 (of_top t)
register-valid nodes t h = record {
  ordered = record { rows = refl; values = refl };
  shape = refl;
  few = omega arith;
  values = λ v u row. absurd (omega (arith, row));
  tokens = λ v u row. absurd (omega (arith, row));
  elements = λ v g. absurd (omega (arith, g));
  counts = λ q. omega arith;
  top = h;
}

pub source-valid : (nodes : ℕ) (k : Kind) (s : Content) → IsSource nodes k s → IsValid nodes k 1 s
source-valid nodes OrSet s h = subst (IsValid nodes OrSet 1) (sym h.1) (rows-valid nodes s.rows h.0)
source-valid nodes GSet s h = subst (IsValid nodes GSet 1) (sym h.1) (elements-valid nodes s.values h.0)
source-valid nodes Counter s h = subst (IsValid nodes Counter 1) (sym h.1) (counts-valid nodes s.counts h.0.0 h.0.1)
source-valid nodes MaxReg s h = subst (IsValid nodes MaxReg 1) (sym h.1) (register-valid nodes s.top h.0)
source-valid nodes (Union x y) s h = absurd h
source-valid nodes (Product x y) s h = absurd h
source-valid nodes (Intersection x y) s h = absurd h
source-valid nodes (Map x place ops) s h = absurd h
source-valid nodes (Filter x place ops) s h = absurd h
source-valid nodes (Fold x op place lift) s h = absurd h

pub sent-valid : (nodes : ℕ) (sent : List Sent) → AllByRecursion (IsSent nodes) sent → AreValidSources nodes sent
sent-valid nodes [] each = tt
sent-valid nodes (s ∷ sent) each = (source-valid nodes s.decl.kind s.content each.0.1, sent-valid nodes sent each.1)

-- ---- what a variable of a legal journal holds; a variable that is not declared is an empty set

pub val-valid : (X : Frame) (h : List Entry) → IsLegal X h → (x : ℕ) → IsValid X.nodes (kind_at (graph X h) x) (width_at (widths (graph X h)) x) (val X h x)
val-valid X h legal x = choose (below-or-not x (length (graph X h))) where
  choose : (x < length (graph X h)) ⊎ (length (graph X h) ≤ x) → IsValid X.nodes (kind_at (graph X h) x) (width_at (widths (graph X h)) x) (val X h x)
  choose (inl low) = (journal-valid X h legal).contents x low
  choose (inr past) =
      subst (λ (s : Content). IsValid X.nodes (kind_at (graph X h) x) (width_at (widths (graph X h)) x) s) (sym (at-past (vals X h) x least (omega (arith, past, vals-length X h legal))))
      (subst (λ (d : Decl). IsValid X.nodes d.kind (width_at (widths (graph X h)) x) least) (sym (at-past (graph X h) x no_decl past)) (valid-least_of X.nodes OrSet (width_at (widths (graph X h)) x)))

pub val-narrow : (X : Frame) (h : List Entry) → IsLegal X h → (x : ℕ) → width_at (widths (graph X h)) x ≤ width_limit
val-narrow X h legal x = choose (below-or-not x (length (graph X h))) where
  choose : (x < length (graph X h)) ⊎ (length (graph X h) ≤ x) → width_at (widths (graph X h)) x ≤ width_limit
  choose (inl low) = narrow-at (graph X h) (journal-graph X h legal) x low
  choose (inr past) = let none : width_at (widths (graph X h)) x ≡ 0 = at-past (widths (graph X h)) x 0 (omega (arith, past, widths-length (graph X h))) in omega (arith, none)

pub val-width : (X : Frame) (h : List Entry) → IsLegal X h → (x : ℕ) → HasWidth 16 (val X h x)
val-width X h legal x = record {
  values = λ v t row. (let wide = (valid.values v t row).0 in record { leaves = omega (arith, wide.leaves, narrow); bytes = omega (arith, wide.bytes, narrow) });
  tokens = λ v t row. omega (arith, (valid.tokens v t row).0, narrow);
} where
  valid : IsValid X.nodes (kind_at (graph X h) x) (width_at (widths (graph X h)) x) (val X h x)
  valid = val-valid X h legal x

  narrow : width_at (widths (graph X h)) x ≤ width_limit
  narrow = val-narrow X h legal x

pub val-small : (X : Frame) (h : List Entry) → IsLegal X h → (x : ℕ) → size_of (val X h x) ≤ row_limit
val-small X h legal x = (val-valid X h legal x).few

pub val-ordered : (X : Frame) (h : List Entry) → IsLegal X h → (x : ℕ) → IsOrdered (val X h x)
val-ordered X h legal x = (val-valid X h legal x).ordered

pub val-shape : (X : Frame) (h : List Entry) → IsLegal X h → (x : ℕ) → HasShape (shape_of X.nodes (kind_at (graph X h) x)) (val X h x)
val-shape X h legal x = (val-valid X h legal x).shape

-- and the same of what stood after the first n entries

pub was-width : (X : Frame) (h : List Entry) → IsLegal X h → (n x : ℕ) → HasWidth 16 (val X (take n h) x)
was-width X h legal n x = val-width X (take n h) (legal-take X h n legal) x

pub was-small : (X : Frame) (h : List Entry) → IsLegal X h → (n x : ℕ) → size_of (val X (take n h) x) ≤ row_limit
was-small X h legal n x = val-small X (take n h) (legal-take X h n legal) x

pub was-ordered : (X : Frame) (h : List Entry) → IsLegal X h → (n x : ℕ) → IsOrdered (val X (take n h) x)
was-ordered X h legal n x = val-ordered X (take n h) (legal-take X h n legal) x

pub was-shape : (X : Frame) (h : List Entry) → IsLegal X h → (n x : ℕ) → HasShape (shape_of X.nodes (kind_at (graph X (take n h)) x)) (val X (take n h) x)
was-shape X h legal n x = val-shape X (take n h) (legal-take X h n legal) x

pub ruleset contents = (val-valid, val-narrow, val-width, val-small, val-ordered, val-shape, was-width, was-small, was-ordered, was-shape)

pub ruleset validity = (source-valid, sent-valid)
