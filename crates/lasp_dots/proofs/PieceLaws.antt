-- A list and its pieces.
use Rattle.std.proofs.Common.{◌≡◌, ℕ, zero, suc, ◌+◌, ◌-◌, ◌≤◌, ◌<◌, Bool, true, false, nat_lt, List, [], ◌∷◌, ◌++◌, length, take, drop, set, get_or, slice_get, Some, refl, sym, ap, subst, ◌∙◌, append_assoc, append-nil, length-append, arith, Result, Ok, Err, OnOk, OnErr}
use Rattle.std.proofs.lemmas.Bool.Decides.{nat_tests}
use Rattle.std.proofs.lemmas.List.{take-append-drop, take-append-le, drop-append-le, length-take-le, length-drop, take_all, drop_all, take_more_set, drop-set-lt}
use Rattle.std.proofs.lemmas.List.Edits.{insert-append_left, insert-append_right}
use Rattle.std.specs.List.{insert}
use Rattle.lasp_log.specs.Log.{joined}
use Rattle.lasp_dots.specs.Pieces.{many, IsParted, AreFilled, offset, IsPlace}
use Rattle.lasp_dots.proofs.PartLaws.{many-append, many-small, many-middle, parted-middle, behind-low, front-high}

next : (i : ℕ) → suc i ≡ i + 1
next i = omega arith

module _ {T : Type 0} where
  joined-append : (cs ds : List (List T)) → joined (cs ++ ds) ≡ joined cs ++ joined ds
  joined-append [] ds = refl
  joined-append (c ∷ cs) ds = ap (λ (s : List T). c ++ s) (joined-append cs ds) ∙ sym (append_assoc c (joined cs) (joined ds))

  split-suc : (css : List (List T)) (i : ℕ) (c : List T) → i < length css → c ≡ get_or css i c → joined css ≡ joined (take i css) ++ (c ++ joined (drop (suc i) css))
  split-suc [] i c h is = absurd (omega (arith, h))
  split-suc (b ∷ cs) zero c h is = ap (λ (s : List T). s ++ joined cs) (sym is)
  split-suc (b ∷ cs) (suc i) c h is =
      ap (λ (s : List T). b ++ s) (split-suc cs i c (omega (arith, h)) is) ∙ sym (append_assoc b (joined (take i cs)) (c ++ joined (drop (suc i) cs)))

  -- the items before a piece, its own, and those behind it
  pub split : (css : List (List T)) (i : ℕ) (c : List T) → i < length css → c ≡ get_or css i c → joined css ≡ joined (take i css) ++ (c ++ joined (drop (i + 1) css))
  split css i c h is = split-suc css i c h is ∙ ap (λ (j : ℕ). joined (take i css) ++ (c ++ joined (drop j css))) (next i)

  written-suc : (css : List (List T)) (i : ℕ) (c : List T) → i < length css → joined (set css i c) ≡ joined (take i css) ++ (c ++ joined (drop (suc i) css))
  written-suc [] i c h = absurd (omega (arith, h))
  written-suc (b ∷ cs) zero c h = refl
  written-suc (b ∷ cs) (suc i) c h =
      ap (λ (s : List T). b ++ s) (written-suc cs i c (omega (arith, h))) ∙ sym (append_assoc b (joined (take i cs)) (c ++ joined (drop (suc i) cs)))

  written : (css : List (List T)) (i : ℕ) (c : List T) → i < length css → joined (set css i c) ≡ joined (take i css) ++ (c ++ joined (drop (i + 1) css))
  written css i c h = written-suc css i c h ∙ ap (λ (j : ℕ). joined (take i css) ++ (c ++ joined (drop j css))) (next i)

  -- ---- offsets

  pub offset-all : (css : List (List T)) → offset css (length css) ≡ length (joined css)
  offset-all css = ap (λ (cs : List (List T)). length (joined cs)) (take_all (length css) css (omega arith))

  offset-suc : (css : List (List T)) (i : ℕ) (c : List T) → i < length css → c ≡ get_or css i c → offset css (suc i) ≡ offset css i + length c
  offset-suc [] i c h is = absurd (omega (arith, h))
  offset-suc (b ∷ cs) zero c h is = omega (arith, length-append b [], ap length is)
  offset-suc (b ∷ cs) (suc i) c h is = omega (arith, length-append b (joined (take i cs)), length-append b (joined (take (suc i) cs)), offset-suc cs i c (omega (arith, h)) is)

  pub offset-more : (css : List (List T)) (i : ℕ) (c : List T) → i < length css → c ≡ get_or css i c → offset css (i + 1) ≡ offset css i + length c
  offset-more css i c h is = ap (offset css) (sym (next i)) ∙ offset-suc css i c h is

  pub offset-rises : (css : List (List T)) (i j : ℕ) → i ≤ j → offset css i ≤ offset css j
  offset-rises [] zero zero h = omega arith
  offset-rises [] zero (suc j) h = omega arith
  offset-rises [] (suc i) zero h = omega arith
  offset-rises [] (suc i) (suc j) h = omega arith
  offset-rises (c ∷ cs) zero j h = omega arith
  offset-rises (c ∷ cs) (suc i) zero h = absurd (omega (arith, h))
  offset-rises (c ∷ cs) (suc i) (suc j) h = omega (arith, length-append c (joined (take i cs)), length-append c (joined (take j cs)), offset-rises cs i j (omega (arith, h)))

  pub offset-small : (css : List (List T)) (i : ℕ) → offset css i ≤ length (joined css)
  offset-small [] zero = omega arith
  offset-small [] (suc i) = omega arith
  offset-small (c ∷ cs) zero = omega arith
  offset-small (c ∷ cs) (suc i) = omega (arith, length-append c (joined (take i cs)), length-append c (joined cs), offset-small cs i)

  -- ---- filled pieces

  pub filled-piece : (css : List (List T)) (i : ℕ) (c : List T) → AreFilled css → i < length css → c ≡ get_or css i c → 0 < length c
  filled-piece [] i c full h is = absurd (omega (arith, h))
  filled-piece (b ∷ cs) zero c full h is = subst (λ (s : List T). 0 < length s) (sym is) full.0
  filled-piece (b ∷ cs) (suc i) c full h is = filled-piece cs i c full.1 (omega (arith, h)) is

  pub filled-set : (css : List (List T)) (i : ℕ) (c : List T) → AreFilled css → 0 < length c → AreFilled (set css i c)
  filled-set [] zero c full h = full
  filled-set [] (suc i) c full h = full
  filled-set (b ∷ cs) zero c full h = (h, full.1)
  filled-set (b ∷ cs) (suc i) c full h = (full.0, filled-set cs i c full.1 h)

  pub filled-append : (cs ds : List (List T)) → AreFilled cs → AreFilled ds → AreFilled (cs ++ ds)
  filled-append [] ds full more = more
  filled-append (c ∷ cs) ds full more = (full.0, filled-append cs ds full.1 more)

  pub filled-drop : (css : List (List T)) (i : ℕ) → AreFilled css → AreFilled (drop i css)
  filled-drop [] zero full = full
  filled-drop [] (suc i) full = full
  filled-drop (c ∷ cs) zero full = full
  filled-drop (c ∷ cs) (suc i) full = filled-drop cs i full.1

  pub filled-take : (css : List (List T)) (i : ℕ) → AreFilled css → AreFilled (take i css)
  filled-take [] zero full = tt
  filled-take [] (suc i) full = tt
  filled-take (c ∷ cs) zero full = tt
  filled-take (c ∷ cs) (suc i) full = (full.0, filled-take cs i full.1)

  -- ---- the search for an edge

  -- a piece whose first item passes begins before the edge
  pub begins-before : (test : T → Bool) (css : List (List T)) (i : ℕ) (c : List T) (b : Bool) → IsParted test (joined css) → i < length css → c ≡ get_or css i c → b ≡ nat_lt 0 (many test c) → b ≡ true
      → offset css i < many test (joined css)
  begins-before test css i c b p h is e f =
      let whole = split css i c h is in
      let some : 0 < many test c = let yes : nat_lt 0 (many test c) ≡ true = sym e ∙ f in grind (arith, nat_tests, yes) in
      subst (λ (s : List T). offset css i < many test s) (sym whole)
      (behind-low test (joined (take i css)) (c ++ joined (drop (i + 1) css)) (subst (IsParted test) whole p) (omega (arith, some, many-append test c (joined (drop (i + 1) css)))))

  -- one whose first item doesn't begins behind it
  pub begins-behind : (test : T → Bool) (css : List (List T)) (i : ℕ) (c : List T) (b : Bool) → AreFilled css → IsParted test (joined css) → i < length css → c ≡ get_or css i c → b ≡ nat_lt 0 (many test c) → b ≡ false
      → many test (joined css) ≤ offset css i
  begins-behind test css i c b full p h is e f =
      let whole = split css i c h is in
      let none : many test c ≡ 0 = let no : nat_lt 0 (many test c) ≡ false = sym e ∙ f in grind (arith, nat_tests, no) in
      subst (λ (s : List T). many test s ≤ offset css i) (sym whole)
      (front-high test (joined (take i css)) c (joined (drop (i + 1) css)) (subst (IsParted test) whole p) (filled-piece css i c full h is) none)

  pub parted-piece : (test : T → Bool) (css : List (List T)) (i : ℕ) (c : List T) → IsParted test (joined css) → i < length css → c ≡ get_or css i c → IsParted test c
  parted-piece test css i c p h is = parted-middle test (joined (take i css)) c (joined (drop (i + 1) css)) (subst (IsParted test) (split css i c h is) p)

  -- a piece by its place, whatever stands for none
  pub piece-is : (css : List (List T)) (i : ℕ) (c : List T) → i < length css → c ≡ get_or css i c → c ≡ get_or css i []
  piece-is [] i c h is = absurd (omega (arith, h))
  piece-is (b ∷ cs) zero c h is = is
  piece-is (b ∷ cs) (suc i) c h is = piece-is cs i c (omega (arith, h)) is

  own : (css : List (List T)) (i : ℕ) → i < length css → get_or css i [] ≡ get_or css i (get_or css i [])
  own [] i h = absurd (omega (arith, h))
  own (b ∷ cs) zero h = refl
  own (b ∷ cs) (suc i) h = own cs i (omega (arith, h))

  pub edge-place : (test : T → Bool) (css : List (List T)) (i at : ℕ) (c : List T) → IsParted test (joined css) → i < length css → (0 < i → offset css i < many test (joined css))
      → many test (joined css) ≤ offset css (i + 1) → c ≡ get_or css i c → at ≡ many test c → IsPlace css i at (many test (joined css))
  edge-place test css i at c p h low high is e =
      let whole = split css i c h is in
      let begin : offset css i ≤ many test (joined css) = from i low in
      let in_piece : many test (joined css) ≤ offset css i + length c = omega (arith, high, offset-more css i c h is) in
      let sum : offset css i + many test c ≡ many test (joined css) =
      subst (λ (s : List T). offset css i ≤ many test s → many test s ≤ offset css i + length c → offset css i + many test c ≡ many test s) (sym whole)
      (many-middle test (joined (take i css)) c (joined (drop (i + 1) css)) (subst (IsParted test) whole p)) begin in_piece in
      record {
        within = h;
        fits = subst (λ (s : List T). at ≤ length s) (piece-is css i c h is) (omega (arith, e, many-small test c));
        sum = omega (arith, sum, e);
        low = low;
      } where
        from : (j : ℕ) → (0 < j → offset css j < many test (joined css)) → offset css j ≤ many test (joined css)
        from zero l = omega arith
        from (suc j) l = omega (arith, l (omega arith))

  -- the edge that stands farther in front isn't in a later piece
  pub places-rise : (css : List (List T)) (i j a b m n : ℕ) → IsPlace css i a m → IsPlace css j b n → m ≤ n → i ≤ j
  places-rise css i j a b m n first last h = choose (nat_lt j i) refl where
    choose : (t : Bool) → nat_lt j i ≡ t → i ≤ j
    choose false e = grind (arith, nat_tests, e)
    choose true e =
        let past : j + 1 ≤ i = grind (arith, nat_tests, e) in
        absurd (omega (arith, past, h, first.low (omega (arith, past)), last.sum, last.fits, offset-more css j (get_or css j []) last.within (own css j last.within), offset-rises css (j + 1) i past))

  -- ---- an item put in

  insert-middle : (a c b : List T) (at : ℕ) (x : T) → at ≤ length c → insert (a ++ (c ++ b)) (length a + at) x ≡ a ++ (insert c at x ++ b)
  insert-middle a c b at x h =
      insert-append_right a (c ++ b) (length a) (length a + at) x refl (omega arith)
      ∙ ap (λ (n : ℕ). a ++ insert (c ++ b) n x) (let e : length a + at - length a ≡ at = omega arith in e) ∙ ap (λ (s : List T). a ++ s) (insert-append_left c b at x h)

  pub put-piece : (css : List (List T)) (i at : ℕ) (c new : List T) (x : T) → i < length css → c ≡ get_or css i c → at ≤ length (get_or css i []) → new ≡ insert c at x → joined (set css i new) ≡ insert (joined css) (offset css i + at) x
  put-piece css i at c new x h is fits e =
      written css i new h ∙ ap (λ (s : List T). joined (take i css) ++ (s ++ joined (drop (i + 1) css))) e
      ∙ sym (insert-middle (joined (take i css)) c (joined (drop (i + 1) css)) at x (subst (λ (s : List T). at ≤ length s) (sym (piece-is css i c h is)) fits)) ∙ ap (λ (s : List T). insert s (offset css i + at) x) (sym (split css i c h is))

  pub same-set : (css : List (List T)) (i : ℕ) (c new : List T) → i < length css → c ≡ get_or css i c → new ≡ c → joined (set css i new) ≡ joined css
  same-set css i c new h is e =
      written css i new h ∙ ap (λ (s : List T). joined (take i css) ++ (s ++ joined (drop (i + 1) css))) e ∙ sym (split css i c h is)

  pub filled-put : {E : Type 0} (r : Result (Unit {0}) E) (css : List (List T)) (i at : ℕ) (c new : List T) (x : T) → AreFilled css → i < length css → c ≡ get_or css i c
      → OnOk r (new ≡ insert c at x) → OnErr r (new ≡ c) → AreFilled (set css i new)
  filled-put (Ok u) css i at c new x full h is ok err =
      filled-set css i new full (omega (arith, ap length ok, length-append (take at c) (x ∷ drop at c)))
  filled-put (Err e) css i at c new x full h is ok err = filled-set css i new full (subst (λ (s : List T). 0 < length s) (sym err) (filled-piece css i c full h is))

  pub fits-piece : (css : List (List T)) (i at : ℕ) (c : List T) → i < length css → c ≡ get_or css i c → at ≤ length (get_or css i []) → at ≤ length c
  fits-piece css i at c h is fits = subst (λ (s : List T). at ≤ length s) (sym (piece-is css i c h is)) fits

  pub put-alone : (test : T → Bool) (css : List (List T)) (x : T) → length css ≡ 0 → joined css ++ x ∷ [] ≡ insert (joined css) (many test (joined css)) x
  put-alone test [] x e = refl
  put-alone test (c ∷ cs) x e = absurd (omega (arith, e))

  -- ---- items taken out

  take-behind : (a t : List T) (n at : ℕ) → n ≡ length a + at → take n (a ++ t) ≡ a ++ take at t
  take-behind [] t n at e = ap (λ (k : ℕ). take k t) (let same : n ≡ at = omega (arith, e) in same)
  take-behind (x ∷ a) t zero at e = absurd (omega (arith, e))
  take-behind (x ∷ a) t (suc n) at e = ap (λ (s : List T). x ∷ s) (take-behind a t n at (omega (arith, e)))

  drop-behind : (a t : List T) (n at : ℕ) → n ≡ length a + at → drop n (a ++ t) ≡ drop at t
  drop-behind [] t n at e = ap (λ (k : ℕ). drop k t) (let same : n ≡ at = omega (arith, e) in same)
  drop-behind (x ∷ a) t zero at e = absurd (omega (arith, e))
  drop-behind (x ∷ a) t (suc n) at e = drop-behind a t n at (omega (arith, e))

  take-middle : (a c b : List T) (at : ℕ) → at ≤ length c → take (length a + at) (a ++ (c ++ b)) ≡ a ++ take at c
  take-middle a c b at h = take-behind a (c ++ b) (length a + at) at refl ∙ ap (λ (s : List T). a ++ s) (take-append-le at c b h)

  drop-middle : (a c b : List T) (at : ℕ) → at ≤ length c → drop (length a + at) (a ++ (c ++ b)) ≡ drop at c ++ b
  drop-middle a c b at h = drop-behind a (c ++ b) (length a + at) at refl ∙ drop-append-le at c b h

  out-of : (css : List (List T)) (i j a b : ℕ) (c d : List T) → i < length css → j < length css → c ≡ get_or css i c → d ≡ get_or css j d → a ≤ length c → b ≤ length d
      → joined (take i css) ++ ((take a c ++ drop b d) ++ joined (drop (j + 1) css)) ≡ take (offset css i + a) (joined css) ++ drop (offset css j + b) (joined css)
  out-of css i j a b c d h k is it fits last =
      ap (λ (s : List T). joined (take i css) ++ s) (append_assoc (take a c) (drop b d) (joined (drop (j + 1) css)))
      ∙ sym (append_assoc (joined (take i css)) (take a c) (drop b d ++ joined (drop (j + 1) css)))
      ∙ ap (λ (s : List T). s ++ (drop b d ++ joined (drop (j + 1) css)))
      (sym (take-middle (joined (take i css)) c (joined (drop (i + 1) css)) a fits) ∙ ap (λ (s : List T). take (offset css i + a) s) (sym (split css i c h is)))
      ∙ ap (λ (s : List T). take (offset css i + a) (joined css) ++ s)
      (sym (drop-middle (joined (take j css)) d (joined (drop (j + 1) css)) b last) ∙ ap (λ (s : List T). drop (offset css j + b) s) (sym (split css j d k it)))

  -- what is kept beside two places, between the pieces before and behind
  pub taken-out : (css : List (List T)) (i j a b m n : ℕ) (kept new : List T) → IsPlace css i a m → IsPlace css j b n → kept ≡ take a (get_or css i []) ++ drop b (get_or css j [])
      → new ≡ joined (take i css) ++ (kept ++ joined (drop (j + 1) css)) → new ≡ take m (joined css) ++ drop n (joined css)
  taken-out css i j a b m n kept new first last e is =
      is ∙ ap (λ (s : List T). joined (take i css) ++ (s ++ joined (drop (j + 1) css))) e
      ∙ out-of css i j a b (get_or css i []) (get_or css j []) first.within last.within (own css i first.within) (own css j last.within) first.fits last.fits
      ∙ (λ z. take (first.sum z) (joined css) ++ drop (last.sum z) (joined css))

  -- the same where the places and what is kept are told of equal lists of pieces
  pub taken-whole : (p q : T → Bool) (css here there : List (List T)) (i j a b : ℕ) (kept new : List T) → here ≡ css → there ≡ css → IsPlace here i a (many p (joined here)) → IsPlace here j b (many q (joined here))
      → kept ≡ take a (get_or there i []) ++ drop b (get_or there j []) → new ≡ joined (take i css) ++ (kept ++ joined (drop (j + 1) css)) → new ≡ take (many p (joined css)) (joined css) ++ drop (many q (joined css)) (joined css)
  taken-whole p q css here there i j a b kept new e f first last k is =
      taken-out css i j a b (many p (joined css)) (many q (joined css)) kept new (subst (λ (cs : List (List T)). IsPlace cs i a (many p (joined cs))) e first) (subst (λ (cs : List (List T)). IsPlace cs j b (many q (joined cs))) e last)
      (k ∙ (λ z. take a (get_or (f z) i []) ++ drop b (get_or (f z) j []))) is

  -- where nothing stands between the places
  pub none-whole : (p q : T → Bool) (css here : List (List T)) (k : ℕ) → here ≡ css → k ≡ 0 → k + many p (joined here) ≡ many q (joined here) → joined css ≡ take (many p (joined css)) (joined css) ++ drop (many q (joined css)) (joined css)
  none-whole p q css here k e none sum =
      let same : many p (joined here) ≡ many q (joined here) = omega (arith, none, sum) in
      sym (take-append-drop (many p (joined css)) (joined css))
      ∙ ap (λ (n : ℕ). take (many p (joined css)) (joined css) ++ drop n (joined css)) (subst (λ (cs : List (List T)). many p (joined cs) ≡ many q (joined cs)) e same)

  pub none-counted : (p q : T → Bool) (css here : List (List T)) (k : ℕ) → here ≡ css → k ≡ 0 → k + many p (joined here) ≡ many q (joined here) → 0 + many p (joined css) ≡ many q (joined css)
  none-counted p q css here k e none sum = subst (λ (cs : List (List T)). 0 + many p (joined cs) ≡ many q (joined cs)) e (omega (arith, none, sum))

  pub between : (css : List (List T)) (i j : ℕ) → i ≤ j → offset css i + length (joined (take (j - i) (drop i css))) ≡ offset css j
  between css zero j h = omega (arith, ap (λ (n : ℕ). length (joined (take n css))) (let e : j - 0 ≡ j = omega arith in e))
  between css (suc i) zero h = absurd (omega (arith, h))
  between [] (suc i) (suc j) h = let left = none (suc j - suc i) in omega (arith, left) where
    none : (n : ℕ) → length (joined {T = T} (take n [])) ≡ 0
    none zero = refl
    none (suc n) = refl
  between (c ∷ cs) (suc i) (suc j) h =
      let e : suc j - suc i ≡ j - i = omega arith in
      let rest = between cs i j (omega (arith, h)) in
      omega (arith, length-append c (joined (take i cs)), length-append c (joined (take j cs)), rest, ap (λ (n : ℕ). length (joined (take n (drop i cs)))) e)

  pub span-small : (css : List (List T)) (i j : ℕ) → i ≤ j → length (joined (take (j - i) (drop i css))) ≤ length (joined css)
  span-small css i j h = omega (arith, between css i j h, offset-small css j)

  -- ---- an item by its place

  get-of : (c : List T) (i : ℕ) (x : T) → i < length c → x ≡ get_or c i x → slice_get c i ≡ Some x
  get-of [] i x h is = absurd (omega (arith, h))
  get-of (y ∷ c) zero x h is = ap (λ (z : T). Some z) (sym is)
  get-of (y ∷ c) (suc i) x h is = get-of c i x (omega (arith, h)) is

  get-front : (c b : List T) (i : ℕ) → i < length c → slice_get (c ++ b) i ≡ slice_get c i
  get-front [] b i h = absurd (omega (arith, h))
  get-front (y ∷ c) b zero h = refl
  get-front (y ∷ c) b (suc i) h = get-front c b i (omega (arith, h))

  get-behind : (a t : List T) (n i : ℕ) → n ≡ length a + i → slice_get (a ++ t) n ≡ slice_get t i
  get-behind [] t n i e = ap (slice_get t) (let same : n ≡ i = omega (arith, e) in same)
  get-behind (y ∷ a) t zero i e = absurd (omega (arith, e))
  get-behind (y ∷ a) t (suc n) i e = get-behind a t n i (omega (arith, e))

  pub item-get : (css : List (List T)) (i at n : ℕ) (c : List T) (x : T) → i < length css → c ≡ get_or css i c → at < length c → x ≡ get_or c at x → offset css i + at ≡ n → slice_get (joined css) n ≡ Some x
  item-get css i at n c x h is fits it e =
      ap (slice_get (joined css)) (sym e) ∙ ap (λ (s : List T). slice_get s (offset css i + at)) (split css i c h is)
      ∙ get-behind (joined (take i css)) (c ++ joined (drop (i + 1) css)) (offset css i + at) at refl ∙ get-front c (joined (drop (i + 1) css)) at fits ∙ get-of c at x fits it

  pub item-in : (css : List (List T)) (i at n : ℕ) (c items : List T) (x : T) → i < length css → c ≡ get_or css i c → items ≡ c → at < length items → x ≡ get_or items at x → offset css i + at ≡ n → slice_get (joined css) n ≡ Some x
  item-in css i at n c items x h is of fits it e =
      item-get css i at n c x h is (subst (λ (s : List T). at < length s) of fits) (subst (λ (s : List T). x ≡ get_or s at x) of it) e

  pub offset-past : (css : List (List T)) (i : ℕ) → length css ≤ i → offset css i ≡ length (joined css)
  offset-past css i h = ap (λ (cs : List (List T)). length (joined cs)) (take_all i css h)

  pub past-all : (css : List (List T)) (i rest place : ℕ) → length css ≤ i → offset css i + rest ≡ place → length (joined css) ≤ place
  past-all css i rest place h e = omega (arith, e, offset-past css i h)

  -- the pieces from one to another go, and one comes in their place
  pub over-none : (css new : List (List T)) (i j : ℕ) (items : List T) → length items ≡ 0 → new ≡ take i css ++ drop j css → joined new ≡ joined (take i css) ++ (items ++ joined (drop j css))
  over-none css new i j [] none e = ap joined e ∙ joined-append (take i css) (drop j css)
  over-none css new i j (x ∷ items) none e = absurd (omega (arith, none))

  pub filled-none : (css new : List (List T)) (i j : ℕ) → AreFilled css → new ≡ take i css ++ drop j css → AreFilled new
  filled-none css new i j full e = subst AreFilled (sym e) (filled-append (take i css) (drop j css) (filled-take css i full) (filled-drop css j full))

  over-parts : (css : List (List T)) (i j : ℕ) (c : List T) → i < length css → i < j → take (i + 1) (set css i c) ++ drop j (set css i c) ≡ (take i css ++ c ∷ []) ++ drop j css
  over-parts css i j c h k = (λ z. take_more_set css i c h z ++ drop-set-lt j css i c k z)

  pub over-one : (css new : List (List T)) (i j : ℕ) (c items : List T) → i < length css → i < j → c ≡ items → new ≡ take (i + 1) (set css i c) ++ drop j (set css i c)
      → joined new ≡ joined (take i css) ++ (items ++ joined (drop j css))
  over-one css new i j c items h k is e =
      ap joined (e ∙ over-parts css i j c h k ∙ append_assoc (take i css) (c ∷ []) (drop j css)) ∙ joined-append (take i css) (c ∷ drop j css)
      ∙ ap (λ (s : List T). joined (take i css) ++ (s ++ joined (drop j css))) is

  pub filled-over : (css new : List (List T)) (i j : ℕ) (c items : List T) → AreFilled css → 0 < length items → i < length css → i < j → c ≡ items → new ≡ take (i + 1) (set css i c) ++ drop j (set css i c) → AreFilled new
  filled-over css new i j c items full some h k is e =
      let own : 0 < length c = omega (arith, some, ap length is) in
      subst AreFilled (sym (e ∙ over-parts css i j c h k)) (filled-append (take i css ++ c ∷ []) (drop j css) (filled-append (take i css) (c ∷ []) (filled-take css i full) (own, tt)) (filled-drop css j full))

  -- how many are left
  pub taken-count : (s new : List T) (m n k : ℕ) → new ≡ take m s ++ drop n s → n ≤ length s → k + m ≡ n → length new + k ≡ length s
  taken-count s new m n k e small sum =
      omega (arith, ap length e, length-append (take m s) (drop n s), length-take-le m s (omega (arith, small, sum)), length-drop n s, small, sum)

  -- ---- a piece in two

  joined-halves : (css : List (List T)) (i : ℕ) (c low high : List T) → i < length css → c ≡ get_or css i c → low ++ high ≡ c → joined (set (insert css i low) (suc i) high) ≡ joined css
  joined-halves [] i c low high h is parts = absurd (omega (arith, h))
  joined-halves (b ∷ cs) zero c low high h is parts = sym (append_assoc low high (joined cs)) ∙ ap (λ (s : List T). s ++ joined cs) (parts ∙ is)
  joined-halves (b ∷ cs) (suc i) c low high h is parts = ap (λ (s : List T). b ++ s) (joined-halves cs i c low high (omega (arith, h)) is parts)

  filled-halves : (css : List (List T)) (i : ℕ) (low high : List T) → i < length css → AreFilled css → 0 < length low → 0 < length high → AreFilled (set (insert css i low) (suc i) high)
  filled-halves [] i low high h full l k = absurd (omega (arith, h))
  filled-halves (b ∷ cs) zero low high h full l k = (l, (k, full.1))
  filled-halves (b ∷ cs) (suc i) low high h full l k = (full.0, filled-halves cs i low high (omega (arith, h)) full.1 l k)

  pub halved-joined : (css new : List (List T)) (i : ℕ) (c low high : List T) → i < length css → c ≡ get_or css i c → low ++ high ≡ c → new ≡ insert css i low → joined (set new (i + 1) high) ≡ joined css
  halved-joined css new i c low high h is parts e =
      (λ z. joined (set (e z) (sym (next i) z) high)) ∙ joined-halves css i c low high h is parts

  pub halved-filled : (css new : List (List T)) (i : ℕ) (low high : List T) → i < length css → AreFilled css → 0 < length low → 0 < length high → new ≡ insert css i low → AreFilled (set new (i + 1) high)
  halved-filled css new i low high h full l k e =
      subst AreFilled (λ z. set (sym e z) (next i z) high) (filled-halves css i low high h full l k)

  -- ---- a piece of its own

  pub pushed-own : (css new : List (List T)) (c pushed none : List T) (x : T) → new ≡ css ++ c ∷ [] → c ≡ pushed → pushed ≡ none ++ x ∷ [] → none ≡ [] → joined new ≡ joined css ++ x ∷ []
  pushed-own css new c pushed none x e is more empty =
      ap joined e ∙ joined-append css (c ∷ []) ∙ ap (λ (s : List T). joined css ++ s) (append-nil c ∙ is ∙ more ∙ ap (λ (s : List T). s ++ x ∷ []) empty)

  pub filled-own : (css new : List (List T)) (c pushed none : List T) (x : T) → AreFilled css → new ≡ css ++ c ∷ [] → c ≡ pushed → pushed ≡ none ++ x ∷ [] → AreFilled new
  filled-own css new c pushed none x full e is more =
      let some : 0 < length c = omega (arith, ap length (is ∙ more), length-append none (x ∷ [])) in
      subst AreFilled (sym e) (filled-append css (c ∷ []) full (some, tt))

  -- ---- an item behind all

  insert-end : (s : List T) (n : ℕ) (x : T) → n ≡ length s → insert s n x ≡ s ++ x ∷ []
  insert-end s n x e = (λ z. take_all n s (let h : length s ≤ n = omega (arith, e) in h) z ++ x ∷ drop_all n s (let h : length s ≤ n = omega (arith, e) in h) z)

  pub pushed-last : (css : List (List T)) (n at : ℕ) (c : List T) (x : T) → n ≡ length css → 0 < n → c ≡ get_or css (n - 1) c → at ≡ length c → insert (joined css) (offset css (n - 1) + at) x ≡ joined css ++ x ∷ []
  pushed-last css n at c x e some is all =
      insert-end (joined css) (offset css (n - 1) + at) x
      (let last : n - 1 + 1 ≡ length css = omega (arith, e, some) in
      let h : n - 1 < length css = omega (arith, e, some) in
      omega (arith, all, offset-more css (n - 1) c h is, ap (offset css) last, offset-all css))
