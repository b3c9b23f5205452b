use Rattle.std.proofs.Common.{◌≡◌, ℕ, ◌∷◌, [], ◌++◌, ap, sym, subst, ◌∙◌, arith, replicate, List}
use Rattle.std.proofs.lemmas.List.{replicate_more}
use Rattle.model_wire.specs.Lawful.{IsMessage}
use Rattle.model_deltas.proofs.SourceLaws.{nothing-lawful}
use Rattle.lasp_delta.proofs.run.act.nothing_told.Goals as goal

pub loop-preserved : goal.loop-preserved
loop-preserved c =
    (c.in_ok-push.ensures.ok ∙ ap (λ (cs : List ℕ). cs ++ 0 ∷ []) c.loop.invariant.0 ∙ replicate_more c.loop.counter 0, omega (arith, c.loop-test.true))

pub new-requires : goal.new-requires
new-requires c =
    let whole : c.loop.counter ≡ c.args.nodes = omega (arith, c.loop.invariant.1, c.loop-test.false) in
    let is : c.loop.counts ≡ replicate c.args.nodes 0 = c.loop.invariant.0 ∙ ap (λ (n : ℕ). replicate n 0) whole in
    subst (λ (cs : List ℕ). IsMessage (record { counts = cs; sources = [] })) (sym is) (nothing-lawful c.args.nodes (record { some = c.requires.some; few = c.requires.few }))

pub returns : goal.returns
returns c =
    let whole : c.loop.counter ≡ c.args.nodes = omega (arith, c.loop.invariant.1, c.loop-test.false) in
    c.new.ensures ∙ ap (λ (cs : List ℕ). record { counts = cs; sources = [] }) (c.loop.invariant.0 ∙ ap (λ (n : ℕ). replicate n 0) whole)
