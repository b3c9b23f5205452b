-- What lies in the mailboxes of a node while it posts, node by node.
use Rattle.std.proofs.Common.{◌≡◌, ℕ, zero, suc, ◌+◌, ◌*◌, ◌<◌, ◌≤◌, ◌⊎◌, inl, inr, List, [], ◌∷◌, ◌++◌, length, Option, Some, refl, sym, ap, subst, ◌∙◌, arith}
use Rattle.std.specs.Prelude.{◌≢◌, slice_get, slice_set}
use Rattle.std.proofs.lemmas.Option.{same_Some, slice_get_within}
use Rattle.model_graph.proofs.PlaceLaws.{below-or-not, set-length}
use Rattle.model_graph.specs.Message.{Message}
use Rattle.lasp_drive.proofs.NodeLaws.{at-set}
use Rattle.lasp_live.specs.Ends.{Out}
use Rattle.lasp_live.specs.Mail.{mails}
use Rattle.lasp_live.specs.Posted.{AreOfTheSame, IsPutTo, ArePutBefore, HavePut}

-- ---- numbers of mailboxes

pub times-most : (k q n : ℕ) → k ≤ q → k * n ≤ q * n
times-most zero q n low = omega arith
times-most (suc k) zero n low = absurd (omega (arith, low))
times-most (suc k) (suc q) n low = let rest = times-most k q n (omega (arith, low)) in omega (arith, rest)

-- few nodes have few mailboxes
pub times-few : (me many : ℕ) → me ≤ 255 → many ≤ 8 → me * many ≤ 2040
times-few me many low few = let most = times-most me 255 many low in omega (arith, most, few)

-- ---- ends of the same mailboxes

pub same-ends : (outs : List Out) → AreOfTheSame outs outs
same-ends outs = record { many = refl; of = λ p o n at there. ap (λ (e : Out). e.of) (same_Some n o (sym there ∙ at)) }

-- an end that is there
pub found : (l : List Out) (p : ℕ) → p < length l → (m : Out) × (slice_get l p ≡ Some m)
found [] p low = absurd (omega (arith, low))
found (o ∷ l) zero low = (o, refl)
found (o ∷ l) (suc p) low = found l p (omega (arith, low))

pub same-then : (a b c : List Out) → AreOfTheSame a b → AreOfTheSame b c → AreOfTheSame a c
same-then a b c first next = record { many = next.many ∙ first.many; of = λ p o n at there. (let mid = found b p (omega (arith, slice_get_within a p o at, first.many)) in next.of p mid.0 n mid.1 there ∙ first.of p o mid.0 at mid.1) }

-- an end is replaced by one of the same mailbox
pub same-set : (outs : List Out) (p : ℕ) (before after : Out) → slice_get outs p ≡ Some before → after.of ≡ before.of → AreOfTheSame outs (slice_set outs p after)
same-set outs p before after at of = record {
  many = set-length outs p after;
  of = λ q o n there now. each q n now o there;
} where
  each : (q : ℕ) (n : Out) → slice_get (slice_set outs p after) q ≡ Some n → (o : Out) → slice_get outs q ≡ Some o → n.of ≡ o.of
  each = at-set (λ q n. (o : Out) → slice_get outs q ≡ Some o → n.of ≡ o.of) outs p after
      (λ q n other there o was. ap (λ (e : Out). e.of) (same_Some n o (sym there ∙ was)))
      (λ o was. of ∙ ap (λ (e : Out). e.of) (same_Some before o (sym at ∙ was)))

pub same-put : (p : ℕ) (message : Option Message) (old new : List Out) → IsPutTo p message old new → AreOfTheSame old new
same-put p message old new put = subst (AreOfTheSame old) (sym put.is) (same-set old p put.before put.after put.at put.of)

-- ---- node by node

pub posted-begins : (me : ℕ) (message : Option Message) (outs : List Out) → ArePutBefore me 0 message outs outs
posted-begins me message outs = record { same = same-ends outs; put = λ p o n at there low other. absurd (omega (arith, low)); left = λ p past. refl; itself = refl }

-- to itself a node puts nothing
pub posted-past : (me k : ℕ) (message : Option Message) (old new : List Out) → ArePutBefore me k message old new → k ≡ me → ArePutBefore me (k + 1) message old new
posted-past me k message old new at is = record {
  same = at.same;
  put = λ p o n was there low other. at.put p o n was there (choose p other (below-or-not p k) low) other;
  left = λ p past. at.left p (omega (arith, past));
  itself = at.itself;
} where
  choose : (p : ℕ) → p ≢ me → (p < k) ⊎ (k ≤ p) → p < k + 1 → p < k
  choose p other (inl less) low = less
  choose p other (inr past) low = absurd (other (omega (arith, past, low, is)))

pub posted-next : (me k : ℕ) (message : Option Message) (old now new : List Out) → ArePutBefore me k message old now → k ≢ me → IsPutTo k message now new → ArePutBefore me (k + 1) message old new
posted-next me k message old now new at other put = subst (ArePutBefore me (k + 1) message old) (sym put.is) (record {
  same = same-then old now (slice_set now k put.after) at.same (same-set now k put.before put.after put.at put.of);
  put = λ p o n was there low other. each p n there o was low other;
  left = λ p past. away now k put.after p (λ e. omega (arith, past, e)) ∙ at.left p (omega (arith, past));
  itself = away now k put.after me (λ e. other (sym e)) ∙ at.itself;
}) where
  each : (p : ℕ) (n : Out) → slice_get (slice_set now k put.after) p ≡ Some n → (o : Out) → slice_get old p ≡ Some o → p < k + 1 → p ≢ me → mails n.put ≡ mails o.put ++ message ∷ []
  each = at-set (λ p n. (o : Out) → slice_get old p ≡ Some o → p < k + 1 → p ≢ me → mails n.put ≡ mails o.put ++ message ∷ []) now k put.after
      (λ p n other there o was low apart. at.put p o n was there (omega (arith, low, other)) apart)
      (λ o was low apart. put.more ∙ ap (λ (e : Out). mails e.put ++ message ∷ []) (same_Some put.before o (sym put.at ∙ at.left k (omega arith) ∙ was)))

  away : (l : List Out) (i : ℕ) (x : Out) (p : ℕ) → p ≢ i → slice_get (slice_set l i x) p ≡ slice_get l p
  away [] i x p apart = refl
  away (y ∷ l) zero x zero apart = absurd (apart refl)
  away (y ∷ l) (suc i) x zero apart = refl
  away (y ∷ l) zero x (suc p) apart = refl
  away (y ∷ l) (suc i) x (suc p) apart = away l i x p (λ e. apart (ap suc e))

pub posted-ends : (me k : ℕ) (message : Option Message) (old new : List Out) → ArePutBefore me k message old new → length old ≤ k → HavePut me message old new
posted-ends me k message old new at past = record { each = λ p o n was there other. at.put p o n was there (omega (arith, past, slice_get_within old p o was)) other; itself = at.itself }

pub ruleset posts = (same-ends, same-then, same-put, posted-begins, posted-past, posted-next, posted-ends)
