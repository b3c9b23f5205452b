use Rattle.std.proofs.Common.{List, ℕ, map, ap, Bor}
use Rattle.lasp_call.proofs.TellLaws.{rest-then, rest-first}
use Rattle.lasp_call.proofs.ending.line.+put_rest.Goals as goal

pub returns-in-Ok-clause-part : goal.returns-in-Ok-clause-part
returns-in-Ok-clause-part g t c =
    rest-then c.put_rest.result _ _ _ c.in-Some.word.now.now (map {A = Bor (List ℕ)} (λ w. w.now) c.in-Some.others.now) _ (ap (λ (ws : List (Bor (List ℕ))). map (λ w. w.now) ws) c.in-Some.ensures.cases.0) c.in-Ok.ensures.ok c.put_rest.ensures.part

pub returns-in-Err-clause-part : goal.returns-in-Err-clause-part
returns-in-Err-clause-part g t c =
    rest-first _ _ c.in-Some.word.now.now (map {A = Bor (List ℕ)} (λ w. w.now) c.in-Some.others.now) _ (ap (λ (ws : List (Bor (List ℕ))). map (λ w. w.now) ws) c.in-Some.ensures.cases.0) c.in-Err.ensures.part
