-- What a node comes to stays within what all updates come to together.
use Rattle.std.proofs.Common.{◌≡◌, ℕ, zero, suc, ◌+◌, ◌<◌, ◌≤◌, ◌==◌, max, min, ◌⊎◌, inl, inr, Bool, true, false, if◌then◌else◌, IsTrue, List, [], ◌∷◌, ◌++◌, length, map, sym, ap, subst, ◌∙◌, append-nil, arith}
use Rattle.std.specs.List.{range_with_len}
use Rattle.std.specs.Ordering.{eq_by_cmp}
use Rattle.std.proofs.lemmas.List.{set_past}
use Rattle.model_values.specs.Row.{Row, key_cmp}
use Rattle.model_values.specs.Token.{Tok}
use Rattle.model_values.specs.Value.{Val}
use Rattle.model_sets.specs.Rows.{level, mark}
use Rattle.model_sets.proofs.RowLaws.{mark-small}
use Rattle.model_states.specs.Content.{Content, at_row, at_value, at_count, at_top, of_counts, IsContentAtMost}
use Rattle.model_states.specs.Counts.{count_at, count_max, zeros, inc_delta}
use Rattle.model_states.specs.Update.{Op, delta}
use Rattle.model_states.specs.Update as op
use Rattle.model_states.proofs.ContentLaws.{at_most-chain, at_most-least, join-least}
use Rattle.model_states.proofs.CountLaws.{count_at-zeros, count_at-inc, length-zeros}
use Rattle.model_states.proofs.DeltaLaws.{remove-row}
use Rattle.model_graph.specs.Evaluation.{content_at, least_of, eval}
use Rattle.model_graph.specs.Graph.{Kind, OrSet, GSet, Counter, MaxReg, Union, Product, Intersection, Map, Filter, Fold, Decl, is_source, kind_at}
use Rattle.model_graph.proofs.PlaceLaws.{below-or-not, map-length}
use Rattle.model_graph.proofs.MessageLaws.{sent-is, sent-among}
use Rattle.model_world.specs.Command.{Script}
use Rattle.model_world.specs.Lawful.{IsLawful, opening_stage}
use Rattle.model_world.specs.World.{Peer, fresh_peer, updated, message_at}
use Rattle.model_live.specs.Letter.{IsLetter}
use Rattle.model_live.specs.Steps.{Updates, Step, Does, steps}
use Rattle.model_live.specs.Together.{after_steps, alone, together, dead_row, all_dead, full, own_updates, AreWithin}
use Rattle.model_live.proofs.AloneLaws.{brings, Suits, after-append, after-update, later-steps, steps-suited, suited-among, together-above, update-brings}
use Rattle.model_live.proofs.BoundLaws.{source-most}
use Rattle.model_live.proofs.FullLaws.{dead-at}

-- ---- at the start

least_of-low : (nodes : ℕ) (k : Kind) (s : Content) → IsContentAtMost (least_of nodes k) s
least_of-low nodes OrSet s = at_most-least s
least_of-low nodes GSet s = at_most-least s
least_of-low nodes Counter s = low where
  low : IsContentAtMost (of_counts (zeros nodes)) s
  low (at_row v t) = omega arith
  low (at_value v) = omega arith
  low (at_count q) = omega (arith, count_at-zeros nodes q)
  low (at_top n) = omega arith
least_of-low nodes MaxReg s = at_most-least s
least_of-low nodes (Union x y) s = at_most-least s
least_of-low nodes (Product x y) s = at_most-least s
least_of-low nodes (Intersection x y) s = at_most-least s
least_of-low nodes (Map x place ops) s = at_most-least s
least_of-low nodes (Filter x place ops) s = at_most-least s
least_of-low nodes (Fold x o place lift) s = at_most-least s

fresh-low : (nodes : ℕ) (g : List Decl) (x : ℕ) (s : Content) → IsContentAtMost (content_at (map (λ (d : Decl). least_of nodes d.kind) g) x) s
fresh-low nodes [] zero s = at_most-least s
fresh-low nodes [] (suc x) s = at_most-least s
fresh-low nodes (d ∷ g) zero s = least_of-low nodes d.kind s
fresh-low nodes (d ∷ g) (suc x) s = fresh-low nodes g x s

pub start-within : (g : List Decl) (script : Script) → AreWithin g script (fresh_peer g script.nodes).contents
start-within g script x low = fresh-low script.nodes g x (content_at (eval g (full g script)) x)

-- a counter begins with a count of each node
pub fresh-wide : (nodes : ℕ) (g : List Decl) (x : ℕ) → x < length g → kind_at g x ≡ Counter → length (content_at (map (λ (d : Decl). least_of nodes d.kind) g) x).counts ≡ nodes
fresh-wide nodes [] x low e = absurd (omega (arith, low))
fresh-wide nodes (d ∷ g) zero low e = ap (λ (k : Kind). length (least_of nodes k).counts) e ∙ length-zeros nodes
fresh-wide nodes (d ∷ g) (suc x) low e = fresh-wide nodes g x (omega (arith, low)) e

-- ---- rows that are dead

abbrev level_where : Bool → Bool → ℕ
level_where here dead = if here then level dead else 0

level-dies : (here dead : Bool) → level_where here dead ≤ level_where here true
level-dies false dead = omega arith
level-dies true true = omega arith
level-dies true false = omega arith

level-dead : (here : Bool) → 0 < level_where here true → 2 ≤ level_where here true
level-dead false h = absurd (omega (arith, h))
level-dead true h = omega arith

dead-above : (s : List Row) (v : Val) (t : Tok) → mark s v t ≤ mark (map dead_row s) v t
dead-above [] v t = omega arith
dead-above (r ∷ s) v t = let first = level-dies (eq_by_cmp key_cmp (v, t) r.0) r.1 in let rest = dead-above s v t in omega (arith, first, rest)

-- a row that stands among them is dead
dead-most : (s : List Row) (v : Val) (t : Tok) → 0 < mark (map dead_row s) v t → 2 ≤ mark (map dead_row s) v t
dead-most [] v t h = absurd (omega (arith, h))
dead-most (r ∷ s) v t h = choose (below-or-not 0 first) (below-or-not 0 rest) (dead-most s v t) where
  first : ℕ
  first = level_where (eq_by_cmp key_cmp (v, t) r.0) true

  rest : ℕ
  rest = mark (map dead_row s) v t

  choose : (0 < first) ⊎ (first ≤ 0) → (0 < rest) ⊎ (rest ≤ 0) → (0 < rest → 2 ≤ rest) → 2 ≤ max first rest
  choose (inl a) other later = let high = level-dead (eq_by_cmp key_cmp (v, t) r.0) a in omega (arith, high)
  choose (inr a) (inl b) later = let high = later b in omega (arith, high)
  choose (inr a) (inr b) later = absurd (omega (arith, a, b, h))

pub all-above : (s : Content) → IsContentAtMost s (all_dead s)
all-above s (at_row v t) = dead-above s.rows v t
all-above s (at_value v) = omega arith
all-above s (at_count q) = omega arith
all-above s (at_top n) = omega arith

-- ---- what an update joins in

-- a remove brings rows that the node holds, dead as they are in what all come to
pub remove-below : (v : Val) (s : Content) (p k : ℕ) (all : Content) → IsContentAtMost s (all_dead all) → IsContentAtMost (delta (op.Remove v) s p k) (all_dead all)
remove-below v s p k all within (at_row u t) = choose (below-or-not 0 (mark (delta (op.Remove v) s p k).rows u t)) where
  choose : (0 < mark (delta (op.Remove v) s p k).rows u t) ⊎ (mark (delta (op.Remove v) s p k).rows u t ≤ 0) → mark (delta (op.Remove v) s p k).rows u t ≤ mark (map dead_row all.rows) u t
  choose (inl some) =
      let row = (remove-row v s p k u t).0 some in
      let there : 0 < mark s.rows u t = subst (λ (w : Val). 0 < mark s.rows w t) (sym row.0) row.1 in
      let more = within (at_row u t) in
      let dead = dead-most all.rows u t (omega (arith, there, more)) in
      let small = mark-small (delta (op.Remove v) s p k).rows u t in
      omega (arith, dead, small)
  choose (inr none) = omega (arith, none)
remove-below v s p k all within (at_value u) = omega arith
remove-below v s p k all within (at_count q) = omega arith
remove-below v s p k all within (at_top n) = omega arith

-- what a node counts up is what it counts up alone, where it counted as much before
inc-below : (by p k : ℕ) (s t : Content) → p < length t.counts → count_at s.counts p ≡ count_at t.counts p → IsContentAtMost (delta (op.Inc by) s p k) (delta (op.Inc by) t p k)
inc-below by p k s t wide same (at_row u w) = omega arith
inc-below by p k s t wide same (at_value u) = omega arith
inc-below by p k s t wide same (at_count q) = choose (below-or-not p (length s.counts)) where
  choose : (p < length s.counts) ⊎ (length s.counts ≤ p) → count_at (inc_delta s.counts p by) q ≤ count_at (inc_delta t.counts p by) q
  choose (inl low) =
      let equal : count_at (inc_delta s.counts p by) q ≡ count_at (inc_delta t.counts p by) q =
      count_at-inc s.counts p by q low ∙ ap (λ (n : ℕ). if q == p then min (n + by) count_max else 0) same ∙ sym (count_at-inc t.counts p by q wide) in
      omega (arith, equal)
  choose (inr past) =
      let none : count_at (inc_delta s.counts p by) q ≡ 0 =
      ap (λ (l : List ℕ). count_at l q) (set_past (zeros (length s.counts)) p (min (count_at s.counts p + by) count_max) (omega (arith, past, length-zeros (length s.counts)))) ∙ count_at-zeros (length s.counts) q in
      omega (arith, none)
inc-below by p k s t wide same (at_top n) = omega arith

-- what an update of a kind joins in is within what all come to, where that holds what the same update joins in of the node alone, and what the node held
brought-below : (kind : Kind) (o : Op) (s t : Content) (p m n : ℕ) (all : Content) → Suits o kind → m ≡ n → (kind ≡ Counter → p < length t.counts) → (kind ≡ Counter → count_at s.counts p ≡ count_at t.counts p)
    → IsContentAtMost s (all_dead all) → IsContentAtMost (delta o t p n) (all_dead all) → IsContentAtMost (delta o s p m) (all_dead all)
brought-below kind (op.Add v) s t p m n all suits number wide same within alone = subst (λ (k : ℕ). IsContentAtMost (delta (op.Add v) s p k) (all_dead all)) (sym number) alone
brought-below kind (op.Remove v) s t p m n all suits number wide same within alone = remove-below v s p m all within
brought-below kind (op.Insert v) s t p m n all suits number wide same within alone = alone
brought-below kind (op.Inc by) s t p m n all suits number wide same within alone =
    at_most-chain (delta (op.Inc by) s p m) (delta (op.Inc by) t p n) (all_dead all) (inc-below by p m s t (wide suits) (same suits)) alone
brought-below kind (op.Max k) s t p m n all suits number wide same within alone = alone
brought-below kind (op.Join u) s t p m n all suits number wide same within alone = absurd suits

module _ (g : List Decl) (script : Script) where
  -- all that the nodes come to together
  abbrev all : List Content
  all = together g script (range_with_len 0 script.nodes)

  most-at : (x : ℕ) → x < length g → IsTrue (is_source (kind_at g x)) → content_at (eval g (full g script)) x ≡ all_dead (content_at all x)
  most-at x low source = source-most g script x low source ∙ dead-at all x

  -- an update of a node alone, behind so many steps, is within what all come to
  alone-below : (p x : ℕ) (o : Op) (done left : List Step) → p < script.nodes → x < length g → steps p 1 script.commands ≡ done ++ Does (Updates x o) ∷ left
      → IsContentAtMost (brings p x o (after_steps p done (fresh_peer g script.nodes))) (all_dead (content_at all x))
  unfolding after_steps
  alone-below p x o done left member low is =
      let fresh : Peer = fresh_peer g script.nodes in
      let q : Peer = after_steps p done fresh in
      let next : Peer = updated p x o q in
      let end : Peer = after_steps p left next in
      let size : length q.contents ≡ length g = (later-steps p done fresh).size ∙ map-length (λ (d : Decl). least_of script.nodes d.kind) g in
      let ends : alone g script p ≡ end = ap (λ (l : List Step). after_steps p l fresh) is ∙ after-append p done (Does (Updates x o) ∷ left) fresh in
      at_most-chain (brings p x o q) (content_at end.contents x) (all_dead (content_at all x))
      (at_most-chain (brings p x o q) (content_at next.contents x) (content_at end.contents x) (update-brings p x o q (omega (arith, low, size))) ((later-steps p left next).keeps x))
      (at_most-chain (content_at end.contents x) (content_at all x) (all_dead (content_at all x))
      (subst (λ (r : Peer). IsContentAtMost (content_at r.contents x) (content_at all x)) ends (together-above g script 0 script.nodes p x (omega arith) (omega (arith, member)) low))
      (all-above (content_at all x)))

  pub source-suits : (o : Op) (k : Kind) → Suits o k → IsTrue (is_source k)
  source-suits (op.Add v) k h = ap is_source h
  source-suits (op.Remove v) k h = ap is_source h
  source-suits (op.Insert v) k h = ap is_source h
  source-suits (op.Inc by) k h = ap is_source h
  source-suits (op.Max n) k h = ap is_source h
  source-suits (op.Join t) k h = absurd h

  pub update-within : (p x : ℕ) (o : Op) (done left : List Step) (r : Peer) → IsLawful g script → p < script.nodes → steps p 1 script.commands ≡ done ++ Does (Updates x o) ∷ left
      → AreWithin g script r.contents → count_at r.counts p ≡ count_at (after_steps p done (fresh_peer g script.nodes)).counts p
      → ((y : ℕ) → y < length g → kind_at g y ≡ Counter → count_at (content_at r.contents y).counts p ≡ count_at (content_at (after_steps p done (fresh_peer g script.nodes)).contents y).counts p)
      → AreWithin g script (updated p x o r).contents
  update-within p x o done left r lawful member is within number counted = choose (below-or-not x (length g)) where
    most : List Content
    most = eval g (full g script)

    q : Peer
    q = after_steps p done (fresh_peer g script.nodes)

    Within : ℕ → Content → Type 0
    Within y s = y < length g → IsContentAtMost s (content_at most y)

    choose : (x < length g) ⊎ (length g ≤ x) → AreWithin g script (updated p x o r).contents
    choose (inl low) =
        let suits : Suits o (kind_at g x) = suited-among g (steps p 1 script.commands) done (Does (Updates x o)) left is (steps-suited g [] script.nodes p 1 (opening_stage g) (sym (append-nil g)) script.commands lawful.each) low in
        let at : content_at most x ≡ all_dead (content_at all x) = most-at x low (source-suits o (kind_at g x) suits) in
        let held : IsContentAtMost (content_at r.contents x) (all_dead (content_at all x)) = subst (λ (s : Content). IsContentAtMost (content_at r.contents x) s) at (within x low) in
        let wide : kind_at g x ≡ Counter → p < length (content_at q.contents x).counts = λ e. let more = (later-steps p done (fresh_peer g script.nodes)).wide x in let first = fresh-wide script.nodes g x low e in omega (arith, more, first, member) in
        let joins : IsContentAtMost (brings p x o r) (all_dead (content_at all x)) =
        brought-below (kind_at g x) o (content_at r.contents x) (content_at q.contents x) p (count_at r.counts p + 1) (count_at q.counts p + 1) (content_at all x) suits (ap (λ (n : ℕ). n + 1) number) wide (counted x low) held
        (alone-below p x o done left member low is) in
        after-update Within p x o r (λ h. join-least (content_at r.contents x) (brings p x o r) (content_at most x) (within x low) (subst (λ (s : Content). IsContentAtMost (brings p x o r) s) (sym at) joins)) within
    choose (inr high) = after-update Within p x o r (λ h. absurd (omega (arith, high, h))) within

  pub sent-letter : (r : Peer) → length r.contents ≡ length g → length r.counts ≡ script.nodes → AreWithin g script r.contents → ((q : ℕ) → q < script.nodes → count_at r.counts q ≤ own_updates g script q)
      → IsLetter g script (message_at g r)
  sent-letter r size wide within counted = record {
    sources = sent-among g r.contents size;
    wide = wide;
    below = λ x low source. subst (λ (s : Content). IsContentAtMost s (content_at (full g script) x)) (sym (sent-is g r.contents x low size source))
        (subst (λ (s : Content). IsContentAtMost (content_at r.contents x) s) (source-most g script x low source) (within x low));
    counted = counted;
  }
