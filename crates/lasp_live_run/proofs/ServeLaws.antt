-- Duties that are served, and what a node tells that was fed.
use Rattle.std.proofs.Common.{◌≡◌, List, [], ◌∷◌, ◌++◌, map, Option, Result, Ok, Err, sym, subst}
use Rattle.std.specs.Prelude.{IfOk}
use Rattle.std.specs.List.{AllZip}
use Rattle.std.specs.Result.{result_ok}
use Rattle.std.proofs.lemmas.List.{map-append}
use Rattle.std.proofs.lemmas.List.Elements.{AllZip-push}
use Rattle.lasp_live.specs.Fed.{HasFed, Setting}
use Rattle.lasp_live.specs.declared.diary.Diary.{Diary}
use Rattle.lasp_live_run.specs.Seat.{HasTold, SeatView}

-- one more that was served
pub zip-more : {D V : Type 0} (view : D → V) (R : V → V → Type 0) (whole rest : List D) (last : D) (new done : List D) (served : D) → whole ≡ rest ++ last ∷ [] → new ≡ done ++ served ∷ []
    → AllZip R (map view rest) (map view done) → R (view last) (view served) → AllZip R (map view whole) (map view new)
zip-more {D} {V} view R whole rest last new done served popped pushed zip one =
    subst (λ (z : List D × List D). AllZip R (map view z.0) (map view z.1)) (λ i. (sym popped i, sym pushed i))
    (subst (λ (z : List V × List V). AllZip R z.0 z.1) (λ i. (sym (map-append view rest (last ∷ [])) i, sym (map-append view done (served ∷ [])) i))
    (AllZip-push R (map view rest) (map view done) (view last) (view served) zip one))

-- a node's diary is there where it was fed
pub told-of : {E P : Type 0} (s : Setting) (v : SeatView P) (r : Result Diary E) (o : Option Diary) → o ≡ result_ok r → IfOk r (λ d. HasFed s v.seen d v.outs v.ins) → HasTold s v o
told-of s v (Ok d) o is fed = subst (HasTold s v) (sym is) fed
told-of s v (Err why) o is fed = subst (HasTold s v) (sym is) tt

pub ruleset servings = (zip-more)
