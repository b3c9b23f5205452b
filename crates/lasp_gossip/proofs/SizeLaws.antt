-- How large the messages are, and how many there are.
use Rattle.std.proofs.Common.{◌≡◌, ◌≤◌, ◌<◌, arith, ℕ, ◌+◌, ◌-◌, ◌^◌, ◌++◌, [], ◌∷◌, length, map, fold, take, drop, get_or, List, Result, Ok, Err, IfOk, OnErr, refl, sym, ap, ◌∙◌, length-append}
use Rattle.std.proofs.lemmas.List.{take-append-drop, take-append-le, drop-append-le, take_all, drop_more, drop-map, map-append, length-drop}
use Rattle.model_graph.specs.Message.{Message}
use Rattle.model_graph.specs.Spelling.{spelled}
use Rattle.lasp_gossip.specs.Network.{size_of}
use Rattle.lasp_gossip.specs.Tally.{IsTally}

-- ---- how large the messages are

size_from : (z : ℕ) (sent : List Message) (m : Message) → fold (λ a b. a + b) z (map (λ (n : Message). length (spelled n)) (sent ++ m ∷ [])) ≡ fold (λ a b. a + b) z (map (λ (n : Message). length (spelled n)) sent) + length (spelled m)
size_from z [] m = refl
size_from z (n ∷ sent) m = size_from (z + length (spelled n)) sent m

pub size_more : (sent : List Message) (m : Message) → size_of (sent ++ m ∷ []) ≡ size_of sent + length (spelled m)
size_more = size_from 0

-- the bytes of a message and of those behind it
size_first : (z : ℕ) (sent : List Message) → fold (λ a b. a + b) z (map (λ (n : Message). length (spelled n)) sent) ≡ z + size_of sent
size_first z [] = omega arith
size_first z (n ∷ sent) = omega (arith, size_first (z + length (spelled n)) sent, size_first (0 + length (spelled n)) sent)

size_both : (sent more : List Message) → size_of (sent ++ more) ≡ size_of sent + size_of more
size_both [] more = omega arith
size_both (n ∷ sent) more = omega (arith, size_first (0 + length (spelled n)) (sent ++ more), size_first (0 + length (spelled n)) sent, size_both sent more)

size_parts : (sent : List Message) (n : ℕ) → size_of (take n sent) + size_of (drop n sent) ≡ size_of sent
size_parts sent n = sym (size_both (take n sent) (drop n sent)) ∙ ap size_of (take-append-drop n sent)

-- those from a place on
pub size_next : {A : Type 0} (f : A → Message) (xs : List A) (i : ℕ) (x : A) → i < length xs → x ≡ get_or xs i x → size_of (map f (drop i xs)) ≡ length (spelled (f x)) + size_of (map f (drop (i + 1) xs))
size_next f xs i x h is = omega (arith, ap (λ l. size_of (map f l)) (drop_more xs i x h ∙ ap (λ y. y ∷ drop (i + 1) xs) (sym is)), size_first (0 + length (spelled (f x))) (map f (drop (i + 1) xs)))

-- ---- what is known of the sizes

-- a message more, of which a bound is known
pub tally-more : (sent : List Message) (limit counted size most : ℕ) (m : Message) (more : ℕ) → IsTally sent limit counted size most → length (spelled m) ≤ more → more ≤ limit - size - most → IsTally (sent ++ m ∷ []) limit counted size (most + more)
tally-more sent limit counted size most m more h bound room = record {
  few = omega (arith, h.few, length-append sent (m ∷ []));
  exact = h.exact ∙ ap size_of (sym (take-append-le counted sent (m ∷ []) h.few));
  bounded = omega (arith, ap size_of (drop-append-le counted sent (m ∷ []) h.few), size_more (drop counted sent) m, h.bounded, bound);
  within = omega (arith, h.within, room);
  fits = h.fits;
}

-- all are counted
pub tally-counted : (sent : List Message) (limit counted size most n all : ℕ) → IsTally sent limit counted size most → n ≡ length sent → all ≡ size_of sent → IsTally sent limit n all 0
tally-counted sent limit counted size most n all h many is = record {
  few = omega (arith, many);
  exact = is ∙ ap size_of (sym (take_all n sent (omega (arith, many))));
  bounded = omega (arith, size_parts sent n, ap size_of (take_all n sent (omega (arith, many))));
  within = omega (arith, is, size_parts sent counted, h.exact, h.bounded, h.within);
  fits = h.fits;
}

-- a message more, which is counted behind the others
pub tally-known : (sent : List Message) (limit counted size most : ℕ) (m : Message) (more : ℕ) → IsTally sent limit counted size most → counted ≡ length sent → most ≡ 0 → more ≡ length (spelled m) → more ≤ limit - size
    → IsTally (sent ++ m ∷ []) limit (counted + 1) (size + more) most
tally-known sent limit counted size most m more h many none is room =
    let whole : take (counted + 1) (sent ++ m ∷ []) ≡ sent ++ m ∷ [] = take_all (counted + 1) (sent ++ m ∷ []) (omega (arith, many, length-append sent (m ∷ []))) in
    record {
      few = omega (arith, many, length-append sent (m ∷ []));
      exact = omega (arith, h.exact, ap size_of (take_all counted sent (omega (arith, many))), ap size_of whole, size_more sent m, is);
      bounded = omega (arith, size_parts (sent ++ m ∷ []) (counted + 1), ap size_of whole);
      within = omega (arith, h.within, none, room);
      fits = h.fits;
    }

pub tally-all : (sent : List Message) (limit counted size most : ℕ) → IsTally sent limit counted size most → size + size_of (drop counted sent) ≡ size_of sent
tally-all sent limit counted size most h = omega (arith, h.exact, size_parts sent counted)

-- the messages that weren't counted
pub rest_is : {A : Type 0} (f : A → Message) (xs : List A) (n : ℕ) → size_of (map f (take (length xs - n) (drop n xs))) ≡ size_of (drop n (map f xs))
rest_is f xs n = ap (λ l. size_of (map f l)) (take_all (length xs - n) (drop n xs) (omega (arith, length-drop n xs))) ∙ ap size_of (sym (drop-map f n xs))

-- the largest limit
pub tally-wider : (sent : List Message) (limit counted size most : ℕ) → IsTally sent limit counted size most → IsTally sent (2 ^ 64 - 1) counted size most
tally-wider sent limit counted size most h = record { few = h.few; exact = h.exact; bounded = h.bounded; within = omega (arith, h.within, h.fits); fits = omega arith }

pub tally-within : (sent : List Message) (limit counted size most : ℕ) → IsTally sent limit counted size most → size_of sent ≤ limit
tally-within sent limit counted size most h = omega (arith, tally-all sent limit counted size most h, h.bounded, h.within)

-- what a call answers whose refusals change no message
pub on_refusal : {A E P : Type 0} (r : Result A E) → P → OnErr r P
on_refusal (Ok a) p = tt
on_refusal (Err e) p = p

pub size-within : {E : Type 0} (r : Result ℕ E) (sent : List Message) (limit : ℕ) → IfOk r (λ size. size ≡ size_of sent) → size_of sent ≤ limit → IfOk r (λ size. size ≤ limit)
size-within (Ok n) sent limit is fits = omega (arith, is, fits)
size-within (Err e) sent limit is fits = tt

-- a message is put behind the others
pub sent-more : {A : Type 0} (f : A → Message) (old kept new : List A) (a : A) (m : Message) → kept ≡ old → new ≡ kept ++ a ∷ [] → f a ≡ m → map f new ≡ map f old ++ m ∷ []
sent-more f old kept new a m same made is =
    ap (map f) (made ∙ ap (λ l. l ++ a ∷ []) same) ∙ map-append f old (a ∷ []) ∙ ap (λ (n : Message). map f old ++ n ∷ []) is

-- ---- how many there are

spelled_some : (m : Message) → 1 ≤ length (spelled m)
unfolding spelled
spelled_some m = omega arith

few_from : (z : ℕ) (sent : List Message) → z + length sent ≤ fold (λ a b. a + b) z (map (λ (n : Message). length (spelled n)) sent)
few_from z [] = omega arith
few_from z (m ∷ sent) = omega (arith, spelled_some m, few_from (z + length (spelled m)) sent)

-- each message has a byte at least
pub few_sent : (sent : List Message) → length sent ≤ size_of sent
few_sent sent = omega (arith, few_from 0 sent)
