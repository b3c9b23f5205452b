-- The growths of a variable: how many there were before an entry, and how many rows had changed the variable by then.
use Rattle.std.proofs.Common.{◌≡◌, ℕ, ◌+◌, ◌≤◌, ◌<◌, max, Bool, true, false, if◌then◌else◌, nat_lt, List, [], ◌∷◌, ◌++◌, length, refl, arith}
use Rattle.std.proofs.lemmas.Bool.Decides.{nat_tests}
use Rattle.lasp_replica.specs.History.{Growth, version_before, rows_before, AreBelow, AscendFrom}

-- ---- growths below an entry

pub below-more : (n m : ℕ) (gs : List Growth) → n ≤ m → AreBelow n gs → AreBelow m gs
below-more n m [] h b = tt
below-more n m (g ∷ gs) h b = (omega (arith, h, b.0), below-more n m gs h b.1)

pub below-push : (n : ℕ) (gs : List Growth) (g : Growth) → AreBelow n gs → g.entry < n → AreBelow n (gs ++ g ∷ [])
below-push n [] g b h = (h, tt)
below-push n (f ∷ gs) g b h = (b.0, below-push n gs g b.1 h)

-- ---- versions

pub version-append : (gs hs : List Growth) (n : ℕ) → version_before (gs ++ hs) n ≡ version_before gs n + version_before hs n
version-append [] hs n = omega arith
version-append (g ∷ gs) hs n = choose (nat_lt g.entry n) (version-append gs hs n) where
  choose : (b : Bool) → version_before (gs ++ hs) n ≡ version_before gs n + version_before hs n
      → (if b then version_before (gs ++ hs) n + 1 else version_before (gs ++ hs) n) ≡ (if b then version_before gs n + 1 else version_before gs n) + version_before hs n
  choose true rest = omega (arith, rest)
  choose false rest = rest

pub version-all : (n : ℕ) (gs : List Growth) → AreBelow n gs → version_before gs n ≡ length gs
version-all n [] b = refl
version-all n (g ∷ gs) b = choose (nat_lt g.entry n) refl (version-all n gs b.1) where
  choose : (t : Bool) → nat_lt g.entry n ≡ t → version_before gs n ≡ length gs → (if t then version_before gs n + 1 else version_before gs n) ≡ length (g ∷ gs)
  choose true e rest = omega (arith, rest)
  choose false e rest = absurd (let h : g.entry < n = b.0 in grind (arith, nat_tests, e, h))

pub version-most : (n : ℕ) (gs : List Growth) → version_before gs n ≤ length gs
version-most n [] = omega arith
version-most n (g ∷ gs) = choose (nat_lt g.entry n) (version-most n gs) where
  choose : (t : Bool) → version_before gs n ≤ length gs → (if t then version_before gs n + 1 else version_before gs n) ≤ length (g ∷ gs)
  choose true rest = omega (arith, rest)
  choose false rest = omega (arith, rest)

pub version-grows : (m n : ℕ) (gs : List Growth) → m ≤ n → version_before gs m ≤ version_before gs n
version-grows m n [] h = omega arith
version-grows m n (g ∷ gs) h = choose (nat_lt g.entry m) refl (nat_lt g.entry n) refl (version-grows m n gs h) where
  choose : (a : Bool) → nat_lt g.entry m ≡ a → (b : Bool) → nat_lt g.entry n ≡ b → version_before gs m ≤ version_before gs n
      → (if a then version_before gs m + 1 else version_before gs m) ≤ (if b then version_before gs n + 1 else version_before gs n)
  choose true e true f rest = omega (arith, rest)
  choose true e false f rest = absurd (grind (arith, nat_tests, e, f, h))
  choose false e true f rest = omega (arith, rest)
  choose false e false f rest = rest

-- where no growth happened from n on, each happened before n
pub version-below : (n : ℕ) (gs : List Growth) → version_before gs n ≡ length gs → AreBelow n gs
version-below n [] e = tt
version-below n (g ∷ gs) e = choose (nat_lt g.entry n) refl (λ all. version-below n gs all) e where
  choose : (b : Bool) → nat_lt g.entry n ≡ b → (version_before gs n ≡ length gs → AreBelow n gs) → (if b then version_before gs n + 1 else version_before gs n) ≡ length (g ∷ gs) → AreBelow n (g ∷ gs)
  choose true t rest e = (grind (arith, nat_tests, t), rest (omega (arith, e)))
  choose false t rest e = absurd (omega (arith, e, version-most n gs))

-- ---- rows

pub rows-append : (gs hs : List Growth) (n : ℕ) → rows_before (gs ++ hs) n ≡ max (rows_before gs n) (rows_before hs n)
rows-append [] hs n = omega arith
rows-append (g ∷ gs) hs n = choose (nat_lt g.entry n) (rows-append gs hs n) where
  choose : (b : Bool) → rows_before (gs ++ hs) n ≡ max (rows_before gs n) (rows_before hs n)
      → (if b then max g.rows (rows_before (gs ++ hs) n) else rows_before (gs ++ hs) n) ≡ max (if b then max g.rows (rows_before gs n) else rows_before gs n) (rows_before hs n)
  choose true rest = omega (arith, rest)
  choose false rest = rest

pub rows-first : (free rows : ℕ) (gs : List Growth) (all : ℕ) → AscendFrom free rows gs all → rows ≤ all
rows-first free rows [] all up = omega (arith, up)
rows-first free rows (g ∷ gs) all up = omega (arith, up.1, rows-first (g.entry + 1) g.rows gs all up.2)

pub rows-most : (n free rows : ℕ) (gs : List Growth) (all : ℕ) → AscendFrom free rows gs all → rows_before gs n ≤ all
rows-most n free rows [] all up = omega arith
rows-most n free rows (g ∷ gs) all up = choose (nat_lt g.entry n) (rows-most n (g.entry + 1) g.rows gs all up.2) where
  choose : (b : Bool) → rows_before gs n ≤ all → (if b then max g.rows (rows_before gs n) else rows_before gs n) ≤ all
  choose true rest = omega (arith, rows-first (g.entry + 1) g.rows gs all up.2, rest)
  choose false rest = rest

pub rows-all : (n free rows : ℕ) (gs : List Growth) (all : ℕ) → AscendFrom free rows gs all → AreBelow n gs → max rows (rows_before gs n) ≡ all
rows-all n free rows [] all up b = omega (arith, up)
rows-all n free rows (g ∷ gs) all up b = choose (nat_lt g.entry n) refl (rows-all n (g.entry + 1) g.rows gs all up.2 b.1) where
  choose : (t : Bool) → nat_lt g.entry n ≡ t → max g.rows (rows_before gs n) ≡ all → max rows (if t then max g.rows (rows_before gs n) else rows_before gs n) ≡ all
  choose true e rest = omega (arith, up.1, rest)
  choose false e rest = absurd (let h : g.entry < n = b.0 in grind (arith, nat_tests, e, h))

-- ---- one growth more

pub ascend-push : (free rows n more : ℕ) (gs : List Growth) (all : ℕ) → AscendFrom free rows gs all → AreBelow n gs → free ≤ n → all ≤ more → AscendFrom free rows (gs ++ record { entry = n; rows = more } ∷ []) more
ascend-push free rows n more [] all up b h g = (h, omega (arith, up, g), refl)
ascend-push free rows n more (f ∷ gs) all up b h g = (up.0, up.1, ascend-push (f.entry + 1) f.rows n more gs all up.2 b.1 (omega (arith, b.0)) g)

pub version-push-low : (n : ℕ) (gs : List Growth) (g : Growth) → n ≤ g.entry → version_before (gs ++ g ∷ []) n ≡ version_before gs n
version-push-low n gs g h = omega (arith, version-append gs (g ∷ []) n, one (nat_lt g.entry n) refl) where
  one : (b : Bool) → nat_lt g.entry n ≡ b → (if b then 0 + 1 else 0) ≡ 0
  one true e = absurd (grind (arith, nat_tests, e, h))
  one false e = refl

pub version-push-high : (n : ℕ) (gs : List Growth) (g : Growth) → g.entry < n → version_before (gs ++ g ∷ []) n ≡ version_before gs n + 1
version-push-high n gs g h = omega (arith, version-append gs (g ∷ []) n, one (nat_lt g.entry n) refl) where
  one : (b : Bool) → nat_lt g.entry n ≡ b → (if b then 0 + 1 else 0) ≡ 1
  one true e = refl
  one false e = absurd (grind (arith, nat_tests, e, h))

pub rows-push-low : (n : ℕ) (gs : List Growth) (g : Growth) → n ≤ g.entry → rows_before (gs ++ g ∷ []) n ≡ rows_before gs n
rows-push-low n gs g h = omega (arith, rows-append gs (g ∷ []) n, one (nat_lt g.entry n) refl) where
  one : (b : Bool) → nat_lt g.entry n ≡ b → (if b then max g.rows 0 else 0) ≡ 0
  one true e = absurd (grind (arith, nat_tests, e, h))
  one false e = refl

pub rows-push-high : (n : ℕ) (gs : List Growth) (g : Growth) → g.entry < n → rows_before gs n ≤ g.rows → rows_before (gs ++ g ∷ []) n ≡ g.rows
rows-push-high n gs g h most = omega (arith, rows-append gs (g ∷ []) n, one (nat_lt g.entry n) refl, most) where
  one : (b : Bool) → nat_lt g.entry n ≡ b → (if b then max g.rows 0 else 0) ≡ g.rows
  one true e = omega arith
  one false e = absurd (grind (arith, nat_tests, e, h))
