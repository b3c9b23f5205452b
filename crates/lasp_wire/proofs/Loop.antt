-- Items read one after the other, as a loop does.
use Rattle.std.proofs.Common.{◌≡◌, ℕ, zero, suc, ◌-◌, ◌+◌, ◌≤◌, ◌<◌, List, [], ◌∷◌, ◌++◌, length, Option, Some, Ok, Err, refl, sym, ap, subst, ◌∙◌, append_assoc, arith}
use Rattle.std.specs.List.{slice_get}
use Rattle.std.proofs.lemmas.List.{append-nil}
use Rattle.model_graph.specs.Chain.{◌>>=◌}
use Rattle.model_wire.specs.Reader.{Reading, Reader, onto, list_at}
use Rattle.model_wire.specs.Value.{latest}
use Rattle.lasp_wire.specs.declared.refused.ReadError.{ReadError}
use Rattle.lasp_wire.specs.declared.refused.ReadError.TheVariants as error
use Rattle.lasp_wire.specs.Read.{Fails, last_of}

-- what was read before, and what is read behind it
abbrev pub behind : {X : Type 0} → List X → List X × List ℕ → Reading (List X)
behind front x = Ok (front ++ x.0, x.1)

abbrev pub with_front : {X : Type 0} → List X → Reading (List X) → Reading (List X)
with_front front r = r >>= behind front

regroup : (X : Type 0) (front : List X) (x : X) (r : Reading (List X)) → with_front front (r >>= onto x) ≡ with_front (front ++ x ∷ []) r
regroup X front x (Ok y) = ap (λ (xs : List X). Ok (xs, y.1)) (simp append_assoc)
regroup X front x (Err e) = refl

pushed_length : (X : Type 0) (front : List X) (x : X) → length (front ++ x ∷ []) ≡ suc (length front)
pushed_length X [] x = refl
pushed_length X (y ∷ front) x = ap suc (pushed_length X front x)

pub last_pushed : (X : Type 0) (front : List X) (x : X) → last_of (front ++ x ∷ []) ≡ Some x
last_pushed X [] x = refl
last_pushed X (y ∷ front) x =
    let e : suc (length (front ++ x ∷ [])) - 1 ≡ suc (length (front ++ x ∷ []) - 1) = omega (arith, pushed_length X front x) in
    ap (slice_get (y ∷ (front ++ x ∷ []))) e ∙ last_pushed X front x

module _ (S X : Type 0) (read : S → Reader X) (next : S → X → S) where
  -- one item more
  pub goes_on : (front : List X) (count i : ℕ) (s : S) (bytes : List ℕ) (x : X) (after : List ℕ) (total : Reading (List X)) → i < count → read s bytes ≡ Ok (x, after)
      → with_front front (list_at read next (count - i) s bytes) ≡ total → with_front (front ++ x ∷ []) (list_at read next (count - (i + 1)) (next s x) after) ≡ total
  unfolding list_at
  goes_on front count i s bytes x after total lt h so_far =
      let k : count - i ≡ suc (count - (i + 1)) = omega (arith, lt) in
      let one : with_front front (list_at read next (count - i) s bytes) ≡ with_front (front ++ x ∷ []) (list_at read next (count - (i + 1)) (next s x) after) =
      rw (k, h) (regroup X front x (list_at read next (count - (i + 1)) (next s x) after)) in
      sym one ∙ so_far

  -- an item that can't be read
  pub ends : (e : ReadError) (front : List X) (count i : ℕ) (s : S) (bytes : List ℕ) (total : Reading (List X)) → i < count → Fails e (read s bytes)
      → with_front front (list_at read next (count - i) s bytes) ≡ total → Fails e total
  unfolding list_at
  ends error.Memory front count i s bytes total lt h so_far = tt
  ends (error.At left why) front count i s bytes total lt h so_far =
      let k : count - i ≡ suc (count - (i + 1)) = omega (arith, lt) in
      let one : with_front front (list_at read next (count - i) s bytes) ≡ Err (left, why) = rw (k, h) refl in
      sym so_far ∙ one

  -- no items are left
  pub is_done : (front : List X) (count i : ℕ) (s : S) (bytes : List ℕ) (total : Reading (List X)) → count ≤ i
      → with_front front (list_at read next (count - i) s bytes) ≡ total → total ≡ Ok (front, bytes)
  unfolding list_at
  is_done front count i s bytes total le so_far =
      let k : count - i ≡ 0 = omega (arith, le) in
      let one : with_front front (list_at read next (count - i) s bytes) ≡ Ok (front, bytes) = rw k (ap (λ (xs : List X). Ok (xs, bytes)) (append-nil front)) in
      sym so_far ∙ one

-- one item more, where the last item is what is known of those before
pub goes_on_last : (X : Type 0) (read : Option X → Reader X) (front : List X) (count i : ℕ) (bytes : List ℕ) (x : X) (after : List ℕ) (total : Reading (List X)) → i < count → read (last_of front) bytes ≡ Ok (x, after)
    → with_front front (list_at read latest (count - i) (last_of front) bytes) ≡ total → with_front (front ++ x ∷ []) (list_at read latest (count - (i + 1)) (last_of (front ++ x ∷ [])) after) ≡ total
goes_on_last X read front count i bytes x after total lt h so_far =
    subst (λ (o : Option X). with_front (front ++ x ∷ []) (list_at read latest (count - (i + 1)) o after) ≡ total) (sym (last_pushed X front x))
    (goes_on (Option X) X read latest front count i (last_of front) bytes x after total lt h so_far)

-- so many items are read
shorter : (X : Type 0) (n : ℕ) (x : X) (xs : List X × List ℕ) (r : Reading (List X)) → ((ys : List X × List ℕ) → r ≡ Ok ys → length ys.0 ≡ n) → (r >>= onto x) ≡ Ok xs → length xs.0 ≡ suc n
shorter X n x xs (Ok ys) h k =
    let is : (x ∷ ys.0, ys.1) ≡ xs = cc in
    subst (λ (q : List X × List ℕ). length q.0 ≡ suc n) is (ap suc (h ys refl))
shorter X n x xs (Err f) h k = absurd cc

more : (S X : Type 0) (read : S → Reader X) (next : S → X → S) (n : ℕ) (s : S) (xs : List X × List ℕ) (r : Reading X)
    → ((t : S) (bytes : List ℕ) (ys : List X × List ℕ) → list_at read next n t bytes ≡ Ok ys → length ys.0 ≡ n)
    → (r >>= λ x. list_at read next n (next s x.0) x.1 >>= onto x.0) ≡ Ok xs → length xs.0 ≡ suc n
more S X read next n s xs (Ok x) h k = shorter X n x.0 xs (list_at read next n (next s x.0) x.1) (h (next s x.0) x.1) k
more S X read next n s xs (Err f) h k = absurd cc

pub many : (S X : Type 0) (read : S → Reader X) (next : S → X → S) (n : ℕ) (s : S) (bytes : List ℕ) (xs : List X × List ℕ) → list_at read next n s bytes ≡ Ok xs → length xs.0 ≡ n
unfolding list_at
many S X read next zero s bytes xs e =
    let is : ([], bytes) ≡ xs = cc in
    subst (λ (q : List X × List ℕ). length q.0 ≡ zero) is refl
many S X read next (suc n) s bytes xs e = more S X read next n s xs (read s bytes) (λ t b ys. many S X read next n t b ys) e
