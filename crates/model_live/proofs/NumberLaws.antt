-- Numbers of messages, and what was heard of a node.
use Rattle.std.proofs.Common.{◌≡◌, ℕ, ◌+◌, ◌*◌, ◌<◌, ◌≤◌, ◌&&◌, Bool, true, false, List, [], ◌∷◌, ◌++◌, length, refl, sym, ap, ◌∙◌, append_assoc, arith}
use Rattle.std.proofs.lemmas.Bool.Decides.{nat_tests}
use Rattle.std.specs.Prelude.{IsTrue, nat_le, nat_lt}
use Rattle.model_journal.specs.Entry.{Entry}
use Rattle.model_graph.specs.Message.{Message}
use Rattle.model_live.specs.Lived.{numbers_of_one, first_number, is_of, heard_by, heard_of, numbered}

pub heard-append : (q : ℕ) (entries more : List Entry) → heard_of q (entries ++ more) ≡ heard_of q entries ++ heard_of q more
unfolding heard_of
heard-append q [] more = refl
heard-append q (e ∷ entries) more = ap (λ (l : List (ℕ × Message)). heard_by q e.act ++ l) (heard-append q entries more) ∙ sym (append_assoc (heard_by q e.act) (heard_of q entries) (heard_of q more))

pub numbered-next : (i : ℕ) (ms : List Message) (m : Message) → numbered i (ms ++ m ∷ []) ≡ numbered i ms ++ (i + length ms, m) ∷ []
unfolding numbered
numbered-next i [] m = ap (λ (n : ℕ). (n, m) ∷ []) (omega arith)
numbered-next i (k ∷ ms) m = ap (λ (l : List (ℕ × Message)). (i, k) ∷ l) (numbered-next (i + 1) ms m ∙ ap (λ (n : ℕ). numbered (i + 1) ms ++ (n, m) ∷ []) (omega arith))

-- a number is one of one sender's alone
pub own-number : (q k : ℕ) → k < numbers_of_one → IsTrue (is_of q (first_number q + k))
own-number q k low = grind (arith, nat_tests, low)

pub one-sender : (p q i : ℕ) → IsTrue (is_of p i) → IsTrue (is_of q i) → p ≡ q
one-sender p q i own other =
    let a = both (nat_le (first_number p) i) (nat_lt i (first_number p + numbers_of_one)) own in
    let b = both (nat_le (first_number q) i) (nat_lt i (first_number q + numbers_of_one)) other in
    let low : p * 100000 ≤ i = grind (arith, nat_tests, a.0) in
    let high : i < p * 100000 + 100000 = grind (arith, nat_tests, a.1) in
    let from : q * 100000 ≤ i = grind (arith, nat_tests, b.0) in
    let to : i < q * 100000 + 100000 = grind (arith, nat_tests, b.1) in
    omega (arith, low, high, from, to) where
      both : (a b : Bool) → (a && b) ≡ true → (a ≡ true) × (b ≡ true)
      both true b e = (refl, e)
      both false b e = absurd cc
