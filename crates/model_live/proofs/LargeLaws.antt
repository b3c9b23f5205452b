-- A source comes to a row a command at most, so where nodes know all commands, what is too large is derived.
use Rattle.std.proofs.Common.{◌≡◌, ℕ, zero, suc, ◌+◌, ◌<◌, ◌≤◌, ◌==◌, ◌||◌, ◌⊎◌, inl, inr, Bool, true, false, if◌then◌else◌, IsTrue, List, [], ◌∷◌, ◌++◌, length, map, Some, refl, ap, ◌∙◌, arith}
use Rattle.std.specs.Prelude.{◌↔◌}
use Rattle.std.specs.FinMap.Entries.{by_order}
use Rattle.std.specs.List.{range_with_len}
use Rattle.std.specs.declared.cmp.Ordering.{Ordering}
use Rattle.std.specs.declared.cmp.Ordering.TheVariants.{Less, Equal, Greater}
use Rattle.std.proofs.lemmas.Bool.Decides.{nat_tests}
use Rattle.std.proofs.lemmas.List.{length-append}
use Rattle.model_values.specs.Row.{Row, key_cmp}
use Rattle.model_values.specs.Value.{Val, val_cmp}
use Rattle.model_sets.specs.Rows.{put, of_rows}
use Rattle.model_sets.specs.Values.{add, of_values}
use Rattle.model_states.specs.Content.{Content, least, join_contents, row_limit, size_of, IsContentAtMost, IsOrdered}
use Rattle.model_states.specs.Counts.{count_at}
use Rattle.model_states.specs.Update.{Op, delta}
use Rattle.model_states.specs.Update as op
use Rattle.model_states.proofs.ContentLaws.{join-least, ordered-join}
use Rattle.model_states.proofs.SizeLaws.{size-grows}
use Rattle.model_graph.specs.Evaluation.{content_at, eval, least_of}
use Rattle.model_graph.specs.Graph.{Kind, OrSet, GSet, Counter, MaxReg, Union, Product, Intersection, Map, Filter, Fold, Decl, is_source, kind_at}
use Rattle.model_graph.specs.Lawful.{IsDerived}
use Rattle.model_graph.specs.Limit.{IsFirstLarge}
use Rattle.model_graph.proofs.EvalLaws.{eval-length}
use Rattle.model_graph.proofs.LimitLaws.{large-words}
use Rattle.model_graph.proofs.MessageLaws.{gained-length}
use Rattle.model_graph.proofs.PlaceLaws.{at-past, below-or-not, map-length}
use Rattle.model_world.specs.Command as command
use Rattle.model_world.specs.Command.{Command, Script}
use Rattle.model_world.specs.World.{Peer, fresh_peer}
use Rattle.model_live.specs.Steps.{Updates, Sends, Prints, Step, Does, Waits, step_of, step_at, steps}
use Rattle.model_live.specs.Together.{after_step, after_steps, alone, all_dead, dead_row, full, together, too_large, IsFirstLargeDerived}
use Rattle.model_live.specs.Words.{number_limit, AreLive, AreLiveFrom}
use Rattle.model_live.proofs.AloneLaws.{after-update, joined-at}
use Rattle.model_live.proofs.BoundLaws.{source-most}
use Rattle.model_live.proofs.FullLaws.{dead-at, dead-ordered, fresh-ordered}
use Rattle.model_live.proofs.WithinLaws.{all-above, remove-below}

-- ---- sizes of joins

put-length : (r : Row) (s : List Row) → length (put r s) ≤ length s + 1
put-length r [] = omega arith
put-length r (q ∷ s) = choose (key_cmp r.0 q.0) (put-length r s) where
  choose : (o : Ordering) → length (put r s) ≤ length s + 1 → length (by_order o (r ∷ q ∷ s) ((q.0, r.1 || q.1) ∷ s) (q ∷ put r s)) ≤ length (q ∷ s) + 1
  choose Less more = omega arith
  choose Equal more = omega arith
  choose Greater more = omega (arith, more)

rows-length : (s : List Row) → length (of_rows s) ≤ length s
rows-length [] = omega arith
rows-length (r ∷ s) = omega (arith, put-length r (of_rows s), rows-length s)

add-length : (v : Val) (s : List Val) → length (add v s) ≤ length s + 1
add-length v [] = omega arith
add-length v (w ∷ s) = choose (val_cmp v w) (add-length v s) where
  choose : (o : Ordering) → length (add v s) ≤ length s + 1 → length (by_order o (v ∷ w ∷ s) (w ∷ s) (w ∷ add v s)) ≤ length (w ∷ s) + 1
  choose Less more = omega arith
  choose Equal more = omega arith
  choose Greater more = omega (arith, more)

values-length : (s : List Val) → length (of_values s) ≤ length s
values-length [] = omega arith
values-length (v ∷ s) = omega (arith, add-length v (of_values s), values-length s)

join-size : (s t : Content) → size_of (join_contents s t) ≤ size_of s + size_of t
join-size s t = omega (arith, rows-length (s.rows ++ t.rows), values-length (s.values ++ t.values), length-append s.rows t.rows, length-append s.values t.values)

-- dead rows are as many
dead-size : (s : Content) → size_of (all_dead s) ≡ size_of s
dead-size s = ap (λ (n : ℕ). n + length s.values) (map-length dead_row s.rows)

-- ---- updates bring a row at most

-- no state of another variable is joined in
abbrev IsPlain : Op → Type 0
IsPlain (op.Add v) = Unit {0}
IsPlain (op.Remove v) = Unit {0}
IsPlain (op.Insert v) = Unit {0}
IsPlain (op.Inc by) = Unit {0}
IsPlain (op.Max n) = Unit {0}
IsPlain (op.Join t) = ⊥

update-size : (o : Op) (s : Content) (p k : ℕ) → IsPlain o → IsOrdered s → size_of (join_contents s (delta o s p k)) ≤ size_of s + 1
update-size (op.Add v) s p k plain whole = omega (arith, join-size s (delta (op.Add v) s p k))
update-size (op.Remove v) s p k plain whole =
    let brought : Content = delta (op.Remove v) s p k in
    let at_most : IsContentAtMost (join_contents s brought) (all_dead s) = join-least s brought (all_dead s) (all-above s) (remove-below v s p k s (all-above s)) in
    let grows = size-grows (join_contents s brought) (all_dead s) (ordered-join s brought) (dead-ordered s whole) at_most in
    omega (arith, grows, dead-size s)
update-size (op.Insert v) s p k plain whole = omega (arith, join-size s (delta (op.Insert v) s p k))
update-size (op.Inc by) s p k plain whole = omega (arith, join-size s (delta (op.Inc by) s p k))
update-size (op.Max n) s p k plain whole = omega (arith, join-size s (delta (op.Max n) s p k))
update-size (op.Join t) s p k plain whole = absurd plain

abbrev IsPlainStep : Step → Type 0
IsPlainStep (Does (Updates x o)) = IsPlain o
IsPlainStep (Does Sends) = Unit {0}
IsPlainStep (Does (Prints x)) = Unit {0}
IsPlainStep (Waits c x until) = Unit {0}

abbrev ArePlain : List Step → Type 0
ArePlain [] = Unit {0}
ArePlain (s ∷ left) = IsPlainStep s × ArePlain left

plain-append : (a b : List Step) → ArePlain a → ArePlain b → ArePlain (a ++ b)
plain-append [] b h k = k
plain-append (s ∷ a) b h k = (h.0, plain-append a b h.1 k)

plain-at : (p c : ℕ) (k : Command) → ArePlain (step_at p c k)
plain-at p c k = choose k where
  one : (b : Bool) (s : Step) → IsPlainStep s → ArePlain (if b then s ∷ [] else [])
  one true s h = (h, tt)
  one false s h = tt

  choose : (k : Command) → ArePlain (step_at p c k)
  choose (command.Add q x v) = one (q == p) (Does (Updates x (op.Add v))) tt
  choose (command.Remove q x v) = one (q == p) (Does (Updates x (op.Remove v))) tt
  choose (command.Insert q x v) = one (q == p) (Does (Updates x (op.Insert v))) tt
  choose (command.Inc q x by) = one (q == p) (Does (Updates x (op.Inc by))) tt
  choose (command.Max q x n) = one (q == p) (Does (Updates x (op.Max n))) tt
  choose (command.Mark q x) = tt
  choose (command.Bind q x m) = tt
  choose (command.Send q) = one (q == p) (Does Sends) tt
  choose (command.Deliver q i) = tt
  choose command.Sync = tt
  choose command.Settle = tt
  choose (command.Print q x) = one (q == p) (Does (Prints x)) tt
  choose (command.Read q x until) = tt
  choose (command.Await q x until) = one (q == p) (Waits c x until) tt
  choose (command.Declare d) = tt

plain-steps : (p c : ℕ) (commands : List Command) → ArePlain (steps p c commands)
unfolding steps
plain-steps p c [] = tt
plain-steps p c (k ∷ rest) = plain-append (step_at p c k) (steps p (c + 1) rest) (plain-at p c k) (plain-steps p (c + 1) rest)

abbrev AreOrdered : Peer → Type 0
AreOrdered r = (y : ℕ) → IsOrdered (content_at r.contents y)

step-ordered : (p : ℕ) (s : Step) (r : Peer) → AreOrdered r → AreOrdered (after_step p s r)
step-ordered p (Does (Updates x o)) r whole = after-update (λ y s. IsOrdered s) p x o r (ordered-join (content_at r.contents x) (delta o (content_at r.contents x) p (count_at r.counts p + 1))) whole
step-ordered p (Does Sends) r whole = whole
step-ordered p (Does (Prints x)) r whole = whole
step-ordered p (Waits c x until) r whole = whole

step-size : (p : ℕ) (s : Step) (r : Peer) → IsPlainStep s → AreOrdered r → (y : ℕ) → size_of (content_at (after_step p s r).contents y) ≤ size_of (content_at r.contents y) + 1
step-size p (Does (Updates x o)) r plain whole y =
    after-update (λ z s. size_of s ≤ size_of (content_at r.contents z) + 1) p x o r (update-size o (content_at r.contents x) p (count_at r.counts p + 1) plain (whole x)) (λ z. omega arith) y
step-size p (Does Sends) r plain whole y = omega arith
step-size p (Does (Prints x)) r plain whole y = omega arith
step-size p (Waits c x until) r plain whole y = omega arith

steps-size : (p : ℕ) (left : List Step) (r : Peer) → ArePlain left → AreOrdered r → (y : ℕ) → size_of (content_at (after_steps p left r).contents y) ≤ size_of (content_at r.contents y) + length left
unfolding after_steps
steps-size p [] r plain whole y = omega arith
steps-size p (s ∷ left) r plain whole y =
    let first = step-size p s r plain.0 whole y in
    let rest = steps-size p left (after_step p s r) plain.1 (step-ordered p s r whole) y in
    omega (arith, first, rest)

-- ---- a node alone

least_of-size : (nodes : ℕ) (k : Kind) → size_of (least_of nodes k) ≡ 0
least_of-size nodes OrSet = refl
least_of-size nodes GSet = refl
least_of-size nodes Counter = refl
least_of-size nodes MaxReg = refl
least_of-size nodes (Union x y) = refl
least_of-size nodes (Product x y) = refl
least_of-size nodes (Intersection x y) = refl
least_of-size nodes (Map x place ops) = refl
least_of-size nodes (Filter x place ops) = refl
least_of-size nodes (Fold x o place lift) = refl

fresh-size : (nodes : ℕ) (g : List Decl) (x : ℕ) → size_of (content_at (map (λ (d : Decl). least_of nodes d.kind) g) x) ≡ 0
fresh-size nodes [] zero = refl
fresh-size nodes [] (suc x) = refl
fresh-size nodes (d ∷ g) zero = least_of-size nodes d.kind
fresh-size nodes (d ∷ g) (suc x) = fresh-size nodes g x

alone-size : (g : List Decl) (script : Script) (p x : ℕ) → size_of (content_at (alone g script p).contents x) ≤ length (steps p 1 script.commands)
alone-size g script p x =
    let all = steps-size p (steps p 1 script.commands) (fresh_peer g script.nodes) (plain-steps p 1 script.commands) (fresh-ordered script.nodes g) x in
    omega (arith, all, fresh-size script.nodes g x)

-- ---- all nodes together

abbrev total : (ℕ → ℕ) → List ℕ → ℕ
total f [] = 0
total f (p ∷ ps) = f p + total f ps

together-size : (g : List Decl) (script : Script) (ps : List ℕ) (x : ℕ) → size_of (content_at (together g script ps) x) ≤ total (λ p. length (steps p 1 script.commands)) ps
unfolding together
together-size g script [] x = omega (arith, fresh-size script.nodes g x)
together-size g script (p ∷ ps) x = choose (below-or-not x (length rest)) (together-size g script ps x) where
  rest : List Content
  rest = together g script ps

  mine : Content
  mine = content_at (alone g script p).contents x

  choose : (x < length rest) ⊎ (length rest ≤ x) → size_of (content_at rest x) ≤ total (λ p. length (steps p 1 script.commands)) ps → size_of (content_at (together g script (p ∷ ps)) x) ≤ length (steps p 1 script.commands) + total (λ p. length (steps p 1 script.commands)) ps
  choose (inl low) held =
      let is : size_of (content_at (together g script (p ∷ ps)) x) ≡ size_of (join_contents (content_at rest x) mine) = ap size_of (joined-at (alone g script p).contents rest x low) in
      omega (arith, is, join-size (content_at rest x) mine, alone-size g script p x, held)
  choose (inr high) held =
      let more : length (together g script (p ∷ ps)) ≡ length rest = gained-length (λ y. Some (content_at (alone g script p).contents y)) 0 rest in
      let none : size_of (content_at (together g script (p ∷ ps)) x) ≡ 0 = ap size_of (at-past (together g script (p ∷ ps)) x least (omega (arith, high, more))) in
      omega (arith, none)

-- ---- each command is one node's

total-both : (f h l : ℕ → ℕ) → ((p : ℕ) → l p ≡ f p + h p) → (ps : List ℕ) → total l ps ≡ total f ps + total h ps
total-both f h l is [] = refl
total-both f h l is (p ∷ ps) = omega (arith, is p, total-both f h l is ps)

total-none : (ps : List ℕ) → total (λ p. 0) ps ≡ 0
total-none [] = refl
total-none (p ∷ ps) = omega (arith, total-none ps)

passed : (q : ℕ) (s : Step) (a n : ℕ) → q < a → total (λ p. length (step_of p q s)) (range_with_len a n) ≡ 0
passed q s a zero low = refl
passed q s a (suc n) low = choose (q == a) refl (passed q s (a + 1) n (omega (arith, low))) where
  choose : (b : Bool) → (q == a) ≡ b → total (λ p. length (step_of p q s)) (range_with_len (a + 1) n) ≡ 0 → length (if b then s ∷ [] else []) + total (λ p. length (step_of p q s)) (range_with_len (a + 1) n) ≡ 0
  choose true e none = let is : q ≡ a = grind (arith, nat_tests, e) in absurd (omega (arith, is, low))
  choose false e none = omega (arith, none)

once : (q : ℕ) (s : Step) (a n : ℕ) → total (λ p. length (step_of p q s)) (range_with_len a n) ≤ 1
once q s a zero = omega arith
once q s a (suc n) = choose (q == a) refl (once q s (a + 1) n) where
  choose : (b : Bool) → (q == a) ≡ b → total (λ p. length (step_of p q s)) (range_with_len (a + 1) n) ≤ 1 → length (if b then s ∷ [] else []) + total (λ p. length (step_of p q s)) (range_with_len (a + 1) n) ≤ 1
  choose true e more = let is : q ≡ a = grind (arith, nat_tests, e) in omega (arith, passed q s (a + 1) n (omega (arith, is)))
  choose false e more = omega (arith, more)

nobody : (a n : ℕ) → total (λ p. 0) (range_with_len a n) ≤ 1
nobody a n = omega (arith, total-none (range_with_len a n))

command-once : (c a n : ℕ) (k : Command) → total (λ p. length (step_at p c k)) (range_with_len a n) ≤ 1
command-once c a n (command.Add q x v) = once q (Does (Updates x (op.Add v))) a n
command-once c a n (command.Remove q x v) = once q (Does (Updates x (op.Remove v))) a n
command-once c a n (command.Insert q x v) = once q (Does (Updates x (op.Insert v))) a n
command-once c a n (command.Inc q x by) = once q (Does (Updates x (op.Inc by))) a n
command-once c a n (command.Max q x m) = once q (Does (Updates x (op.Max m))) a n
command-once c a n (command.Mark q x) = nobody a n
command-once c a n (command.Bind q x m) = nobody a n
command-once c a n (command.Send q) = once q (Does Sends) a n
command-once c a n (command.Deliver q i) = nobody a n
command-once c a n command.Sync = nobody a n
command-once c a n command.Settle = nobody a n
command-once c a n (command.Print q x) = once q (Does (Prints x)) a n
command-once c a n (command.Read q x until) = nobody a n
command-once c a n (command.Await q x until) = once q (Waits c x until) a n
command-once c a n (command.Declare d) = nobody a n

steps-once : (commands : List Command) (c a n : ℕ) → total (λ p. length (steps p c commands)) (range_with_len a n) ≤ length commands
unfolding steps
steps-once [] c a n = omega (arith, total-none (range_with_len a n))
steps-once (k ∷ rest) c a n =
    let both = total-both (λ p. length (step_at p c k)) (λ p. length (steps p (c + 1) rest)) (λ p. length (step_at p c k ++ steps p (c + 1) rest)) (λ p. length-append (step_at p c k) (steps p (c + 1) rest)) (range_with_len a n) in
    omega (arith, both, command-once c a n k, steps-once rest (c + 1) a n)

-- ---- what is too large

-- the last command that nodes know has a number below the limit
live-few : (number : ℕ) (commands : List Command) → number ≤ number_limit → AreLiveFrom number commands → number + length commands ≤ number_limit
live-few number [] low live = omega (arith, low)
live-few number (k ∷ rest) low live = omega (arith, live-few (number + 1) rest (omega (arith, live.0.1)) live.1)

pub source-size : (g : List Decl) (script : Script) (x : ℕ) → x < length g → IsTrue (is_source (kind_at g x)) → size_of (content_at (eval g (full g script)) x) ≤ length script.commands
source-size g script x low source =
    let all : List Content = together g script (range_with_len 0 script.nodes) in
    let is : size_of (content_at (eval g (full g script)) x) ≡ size_of (content_at all x) = ap size_of (source-most g script x low source ∙ dead-at all x) ∙ dead-size (content_at all x) in
    omega (arith, is, together-size g script (range_with_len 0 script.nodes) x, steps-once script.commands 1 0 script.nodes)

module _ (g : List Decl) (script : Script) (live : AreLive script.commands) where
  abbrev most : List Content
  most = eval g (full g script)

  -- a variable is derived, or it is small
  derived-or-small : (x : ℕ) → IsDerived g x ⊎ (size_of (content_at most x) ≤ row_limit)
  derived-or-small x = choose (below-or-not x (length g)) where
    by : x < length g → (b : Bool) → is_source (kind_at g x) ≡ b → IsDerived g x ⊎ (size_of (content_at most x) ≤ row_limit)
    by low true source = inr (omega (arith, source-size g script x low source, live-few 1 script.commands (omega arith) live))
    by low false source = inl (record { declared = low; process = source })

    choose : (x < length g) ⊎ (length g ≤ x) → IsDerived g x ⊎ (size_of (content_at most x) ≤ row_limit)
    choose (inl low) = by low (is_source (kind_at g x)) refl
    choose (inr high) =
        let none : size_of (content_at most x) ≡ 0 = ap size_of (at-past most x least (omega (arith, high, eval-length g (full g script)))) in
        inr (omega (arith, none))

  first-derived : (x : ℕ) → IsFirstLarge most x → IsFirstLargeDerived g most x
  first-derived x first = choose (derived-or-small x) where
    choose : IsDerived g x ⊎ (size_of (content_at most x) ≤ row_limit) → IsFirstLargeDerived g most x
    choose (inl derived) = record { derived = derived; large = first.large; before = λ y less is. first.before y less }
    choose (inr small) = absurd (omega (arith, small, first.large))

  derived-first : (x : ℕ) → IsFirstLargeDerived g most x → IsFirstLarge most x
  derived-first x first = record { large = first.large; before = λ y less. choose y less (derived-or-small y) } where
    choose : (y : ℕ) → y < x → IsDerived g y ⊎ (size_of (content_at most y) ≤ row_limit) → size_of (content_at most y) ≤ row_limit
    choose y less (inl derived) = first.before y less derived
    choose y less (inr small) = small

pub large-derived : (g : List Decl) (script : Script) (x : ℕ) → AreLive script.commands → too_large g script ≡ Some x ↔ IsFirstLargeDerived g (eval g (full g script)) x
large-derived g script x live = (
  λ told. first-derived g script live x ((large-words (eval g (full g script)) x).0 told),
  λ first. (large-words (eval g (full g script)) x).1 (derived-first g script live x first),
)
