-- Acts along a list of nodes.
use Rattle.std.proofs.Common.{sym, ap, subst, ◌∙◌, arith, drop, take}
use Rattle.std.specs.Prelude.{◌≡◌, ℕ, ◌+◌, ◌<◌, ◌≤◌, List, [], ◌∷◌, ◌++◌, map, flat_map}
use Rattle.std.specs.List.{range_with_len}
use Rattle.std.proofs.lemmas.List.FromFn.{length-range_with_len}
use Rattle.model_world.specs.World.{Act, Post, takes, sync_acts, each}
use Rattle.std.specs.Prelude.{Result}
use Rattle.lasp_drive.specs.Driver.{run_of}
use Rattle.lasp_drive.specs.Acts.{Halts}
use Rattle.lasp_drive.specs.declared.halt.Halt.{Halt}
use Rattle.lasp_drive.proofs.ActLaws.{next-range, split, take-next, take-past}
use Rattle.lasp_delta.specs.Seen.{DeltaView}
use Rattle.lasp_delta.specs.Acts.{Went, Goes}
use Rattle.lasp_delta.proofs.GoLaws.{went-then, halts-before, halts-behind, goes-then}

-- the acts of the nodes below a number were done
abbrev pub HaveGone : (List ℕ → List Act) → ℕ → ℕ → DeltaView → ℕ → DeltaView → Type 0
HaveGone acts c n d p e = Went c c d (acts (take p (range_with_len 0 n))) e

module _ (acts : List ℕ → List Act) (parts : (xs ys : List ℕ) → acts (xs ++ ys) ≡ acts xs ++ acts ys) (c n : ℕ) (d : DeltaView) where
  -- the next node's acts were done
  pub gone-next : (p : ℕ) (e f : DeltaView) → p < n → HaveGone acts c n d p e → Went c c e (acts (p ∷ [])) f → HaveGone acts c n d (p + 1) f
  gone-next p e f within first second =
      subst (λ (all : List Act). Went c c d all f) (sym (ap acts (take-next (range_with_len 0 n) p p (drop (p + 1) (range_with_len 0 n)) (next-range n p within)) ∙ parts (take p (range_with_len 0 n)) (p ∷ [])))
      (went-then c c d e f (acts (take p (range_with_len 0 n))) (acts (p ∷ [])) first second)

  -- the next node stopped the run
  pub gone-stops : (p : ℕ) (e : DeltaView) (why : Halt) → p < n → HaveGone acts c n d p e → Halts (each c (run_of e.driver) (acts (p ∷ []))) why → Halts (each c (run_of d.driver) (acts (range_with_len 0 n))) why
  gone-stops p e why within first stop =
      let rest = drop (p + 1) (range_with_len 0 n) in
      let all : acts (range_with_len 0 n) ≡ acts (take p (range_with_len 0 n)) ++ (acts (p ∷ []) ++ acts rest) =
      ap acts (split (range_with_len 0 n) p ∙ ap (λ (ks : List ℕ). take p (range_with_len 0 n) ++ ks) (next-range n p within)) ∙ parts (take p (range_with_len 0 n)) (p ∷ rest) ∙ ap (λ (more : List Act). acts (take p (range_with_len 0 n)) ++ more) (parts (p ∷ []) rest) in
      subst (λ (done : List Act). Halts (each c (run_of d.driver) done) why) (sym all)
      (halts-behind c d e (acts (take p (range_with_len 0 n))) (acts (p ∷ []) ++ acts rest) why first (halts-before c (run_of e.driver) (acts (p ∷ [])) (acts rest) why stop))

  -- all were done
  pub gone-all : (p : ℕ) (e : DeltaView) → n ≤ p → HaveGone acts c n d p e → Went c c d (acts (range_with_len 0 n)) e
  gone-all p e past h = subst (λ (ks : List ℕ). Went c c d (acts ks) e) (take-past (range_with_len 0 n) p (omega (arith, past, length-range_with_len 0 n))) h

-- every node sent, and then each took what the others sent
pub goes-sync : {A : Type 0} (c : ℕ) (d e f : DeltaView) (many k first i : ℕ) (result : Result A Halt) → k ≡ many → i ≡ first → Went c c d (map Post (range_with_len 0 many)) e → Goes c c e (flat_map (takes k i) (range_with_len 0 k)) result f
    → Goes c c d (sync_acts many first) result f
goes-sync c d e f many k first i result same number sent taken =
    goes-then c c d e f (map Post (range_with_len 0 many)) (flat_map (takes many first) (range_with_len 0 many)) result sent
    (subst (λ (j : ℕ). Goes c c e (flat_map (takes many j) (range_with_len 0 many)) result f) number (subst (λ (n : ℕ). Goes c c e (flat_map (takes n i) (range_with_len 0 n)) result f) same taken))
