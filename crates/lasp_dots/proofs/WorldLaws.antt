-- What replicas stay along acts, and acts one after the other.
use Rattle.std.proofs.Common.{◌≡◌, ℕ, zero, suc, ◌+◌, ◌<◌, Bool, true, false, not, ◌==◌, List, [], ◌∷◌, ◌++◌, length, map, slice_set, refl, sym, ap, subst, ◌∙◌, arith}
use Rattle.std.specs.Prelude.{if◌then◌else◌, flat_map, filter, slice_index_or, Result, Ok, Err, OnOk, OnErr}
use Rattle.std.specs.List.{range_with_len}
use Rattle.std.proofs.lemmas.Bool.{eq-eqb, ne_eqb}
use Rattle.std.proofs.lemmas.List.{append_assoc, append-nil, map_push, get_or_read}
use Rattle.model_states.specs.Counts.{larger}
use Rattle.model_states.proofs.CountLaws.{length-larger}
use Rattle.model_graph.proofs.PlaceLaws.{at-set, set-length}
use Rattle.model_world.specs.World.{Act, Post, Take, takes, sync_acts}
use Rattle.model_dots.specs.Dots.{Dots, no_dots, join_dots}
use Rattle.model_dots.specs.DotWorld.{DotWorld, dots_at, dot_act, dot_each}
use Rattle.lasp_dots.specs.Replicas.{AreWide}

-- ---- widths

pub wide-set : (w : DotWorld) (p : ℕ) (new : Dots) → AreWide w → length new.counts ≡ length w.nodes → AreWide (record { nodes = slice_set w.nodes p new; sent = w.sent })
wide-set w p new h wide = record {
  nodes = λ q low.
      let size = set-length w.nodes p new in
      let in_range : q < length w.nodes = omega (arith, low, size) in
      at-set (λ (d : Dots). length d.counts ≡ length w.nodes) w.nodes p new (no_dots 0) q in_range (λ _. wide) (λ _. h.nodes q in_range) ∙ sym size;
  sent = λ i low. h.sent i low ∙ sym (set-length w.nodes p new);
}

pub larger-wide : (c d : List ℕ) (many : ℕ) → length c ≡ many → length d ≡ many → length (larger c d) ≡ many
larger-wide c d many e f = omega (arith, length-larger c d, e, f)

pub sent-wide : (w : DotWorld) (i : ℕ) (m : Dots) → AreWide w → i < length w.sent → m ≡ slice_index_or w.sent i m → length m.counts ≡ length w.nodes
sent-wide w i m h low e = ap (λ (d : Dots). length d.counts) (get_or_read w.sent i m low e (no_dots 0)) ∙ h.sent i low

-- a node took a message, or memory was wanting
pub taken-wide : {A B : Type 0} (r : Result A B) (w : DotWorld) (nodes : List Dots) (p : ℕ) (m : Dots) → OnOk r (nodes ≡ slice_set w.nodes p (join_dots (dots_at w.nodes p) m)) → OnErr r (nodes ≡ w.nodes)
    → AreWide w → p < length w.nodes → length m.counts ≡ length w.nodes → AreWide (record { nodes = nodes; sent = w.sent })
taken-wide (Ok x) w nodes p m ok err h low wide =
    subst (λ (ns : List Dots). AreWide (record { nodes = ns; sent = w.sent })) (sym ok)
    (wide-set w p (join_dots (dots_at w.nodes p) m) h (larger-wide (dots_at w.nodes p).counts m.counts (length w.nodes) (h.nodes p low) wide))
taken-wide (Err e) w nodes p m ok err h low wide = subst (λ (ns : List Dots). AreWide (record { nodes = ns; sent = w.sent })) (sym err) h

-- ---- least sets

-- ---- acts one after the other

pub each-append : (w : DotWorld) (some more : List Act) → dot_each w (some ++ more) ≡ dot_each (dot_each w some) more
each-append w [] more = refl
each-append w (a ∷ some) more = each-append (dot_act w a) some more

range-suc : (a n : ℕ) → range_with_len a (suc n) ≡ range_with_len a n ++ (a + n) ∷ []
range-suc a zero = ap (λ (m : ℕ). m ∷ []) (let same : a ≡ a + 0 = omega arith in same)
range-suc a (suc n) = ap (λ (ms : List ℕ). a ∷ ms) (range-suc (a + 1) n ∙ ap (λ (m : ℕ). range_with_len (a + 1) n ++ m ∷ []) (let same : a + 1 + n ≡ a + suc n = omega arith in same))

-- the first numbers and the next
pub range-push : (n : ℕ) → range_with_len 0 (n + 1) ≡ range_with_len 0 n ++ n ∷ []
range-push n = ap (range_with_len 0) (let next : n + 1 ≡ suc n = omega arith in next) ∙ range-suc 0 n ∙ ap (λ (m : ℕ). range_with_len 0 n ++ m ∷ []) (let same : 0 + n ≡ n = omega arith in same)

-- the first nodes sent, and the next does
pub posts-push : (w : DotWorld) (p : ℕ) → dot_each w (map Post (range_with_len 0 (p + 1))) ≡ dot_act (dot_each w (map Post (range_with_len 0 p))) (Post p)
posts-push w p =
    ap (λ (ns : List ℕ). dot_each w (map Post ns)) (range-push p) ∙ ap (dot_each w) (map_push Post (range_with_len 0 p) p)
    ∙ each-append w (map Post (range_with_len 0 p)) (Post p ∷ [])

-- node p takes the messages of these nodes but its own
abbrev pub takes_of : ℕ → ℕ → List ℕ → List Act
takes_of i p ns = map (λ q. Take p (i + q)) (filter (λ q. not (q == p)) ns)

first-taken : (i p m : ℕ) (rest : List ℕ) (b : Bool) → map (λ (k : ℕ). Take p (i + k)) (if b then m ∷ rest else rest) ≡ (if b then Take p (i + m) ∷ [] else []) ++ map (λ (k : ℕ). Take p (i + k)) rest
first-taken i p m rest true = refl
first-taken i p m rest false = refl

-- what node p takes of node q: nothing of itself
abbrev pub taken : ℕ → ℕ → ℕ → List Act
taken i p q = if not (q == p) then Take p (i + q) ∷ [] else []

takes-append : (i p q : ℕ) (ns : List ℕ) → takes_of i p (ns ++ q ∷ []) ≡ takes_of i p ns ++ taken i p q
takes-append i p q [] = first-taken i p q [] (not (q == p)) ∙ append-nil (taken i p q)
takes-append i p q (m ∷ ns) =
    first-taken i p m (filter (λ k. not (k == p)) (ns ++ q ∷ [])) (not (m == p))
    ∙ ap (λ (rest : List Act). taken i p m ++ rest) (takes-append i p q ns)
    ∙ sym (append_assoc (taken i p m) (takes_of i p ns) (taken i p q))
    ∙ ap (λ (first : List Act). first ++ taken i p q) (sym (first-taken i p m (filter (λ k. not (k == p)) ns) (not (m == p))))

-- the messages of the first nodes were taken, and the next's is
pub takes-push : (w : DotWorld) (i p q : ℕ) → dot_each w (takes_of i p (range_with_len 0 (q + 1))) ≡ dot_each (dot_each w (takes_of i p (range_with_len 0 q))) (taken i p q)
takes-push w i p q =
    ap (λ (ns : List ℕ). dot_each w (takes_of i p ns)) (range-push q) ∙ ap (dot_each w) (takes-append i p q (range_with_len 0 q)) ∙ each-append w (takes_of i p (range_with_len 0 q)) (taken i p q)

pub taken-other : (w : DotWorld) (i p q : ℕ) → not (q == p) ≡ true → dot_each w (taken i p q) ≡ dot_act w (Take p (i + q))
taken-other w i p q other = ap (λ (b : Bool). dot_each w (if b then Take p (i + q) ∷ [] else [])) other

pub taken-own : (w : DotWorld) (i p q : ℕ) → not (q == p) ≡ false → dot_each w (taken i p q) ≡ w
taken-own w i p q own = ap (λ (b : Bool). dot_each w (if b then Take p (i + q) ∷ [] else [])) own

flat-push : (nodes i p : ℕ) (ns : List ℕ) → flat_map (takes nodes i) (ns ++ p ∷ []) ≡ flat_map (takes nodes i) ns ++ takes nodes i p
flat-push nodes i p [] = append-nil (takes nodes i p)
flat-push nodes i p (m ∷ ns) = ap (λ (rest : List Act). takes nodes i m ++ rest) (flat-push nodes i p ns) ∙ sym (append_assoc (takes nodes i m) (flat_map (takes nodes i) ns) (takes nodes i p))

-- the first nodes took the messages of all others, and the next does
pub all-push : (w : DotWorld) (nodes i p : ℕ) → dot_each w (flat_map (takes nodes i) (range_with_len 0 (p + 1))) ≡ dot_each (dot_each w (flat_map (takes nodes i) (range_with_len 0 p))) (takes nodes i p)
all-push w nodes i p =
    ap (λ (ns : List ℕ). dot_each w (flat_map (takes nodes i) ns)) (range-push p) ∙ ap (dot_each w) (flat-push nodes i p (range_with_len 0 p))
    ∙ each-append w (flat_map (takes nodes i) (range_with_len 0 p)) (takes nodes i p)

-- every node sent, and then each took the messages of all others
pub sync-done : (w v u : DotWorld) (first : ℕ) → first ≡ length w.sent → length v.nodes ≡ length w.nodes → v ≡ dot_each w (map Post (range_with_len 0 (length w.nodes)))
    → u ≡ dot_each v (flat_map (takes (length v.nodes) first) (range_with_len 0 (length v.nodes))) → u ≡ dot_each w (sync_acts (length w.nodes) (length w.sent))
sync-done w v u first number size posted taken =
    taken
    ∙ (λ k. dot_each (posted k) (flat_map (takes (size k) (number k)) (range_with_len 0 (size k))))
    ∙ sym (each-append w (map Post (range_with_len 0 (length w.nodes))) (flat_map (takes (length w.nodes) (length w.sent)) (range_with_len 0 (length w.nodes))))

pub other-node : (q p : ℕ) → (q ≡ p → ⊥) → not (q == p) ≡ true
other-node q p other = ap not (ne_eqb q p other)

pub own-node : (q p : ℕ) → q ≡ p → not (q == p) ≡ false
own-node q p same = ap not (eq-eqb q p same)
