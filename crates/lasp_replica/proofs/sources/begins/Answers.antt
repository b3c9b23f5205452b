use Rattle.std.proofs.Common.{◌≡◌, ◌↔◌, ◌<◌, ℕ, ◌+◌, true, false, length, refl, sym, subst, ◌∙◌, arith}
use Rattle.model_values.proofs.ListLaws.{some-at}
use Rattle.model_graph.specs.Graph.{is_source}
use Rattle.lasp_graph.specs.Decl.{decl_of}
use Rattle.lasp_replica.specs.Replica.{IsBeginning}
use Rattle.lasp_replica.proofs.BeginLaws.{BeginsFrom, begins-next, begins-other, begins-process, begins-whole, begins-end}
use Rattle.lasp_replica.proofs.sources.begins.Goals as goal
use Rattle.lasp_replica.proofs.sources.begins.Goals.{then-is_source+else-not-is_source_at, else-is_source}

pub returns-then-i-len : goal.returns-then-i-len
returns-then-i-len c =
    (λ t. c.loop-x.invariant.rest.0 (begins-whole c.args.message.now c.args.graph.now c.loop-x.i c.loop-x.x (omega (arith, c.if-i-len.true, c.len.ensures))), λ b. refl)

pub returns-then-not-is_source_at : goal.returns-then-not-is_source_at
returns-then-not-is_source_at c =
    let source : is_source (decl_of c.at-decl.result.now).kind ≡ true = sym c.is_source.ensures ∙ c.if-is_source.true in
    let low : c.loop-x.i < length c.args.message.now.sources = omega (arith, c.if-i-len.false, c.len.ensures, c.loop-x.invariant.some) in
    let s = some-at c.args.message.now.sources c.loop-x.i low in (
      λ t. absurd cc,
      λ b. absurd (begins-other c.args.message.now c.args.graph.now c.loop-x.i c.loop-x.x (decl_of c.at-decl.result.now) s.0 c.at-decl.ensures.decl source s.1
          (λ same. (let both : true ≡ false = sym ((c.is_source_at.ensures s.0 s.1).1 same) ∙ c.if-not-is_source_at.true in cc)) (c.loop-x.invariant.rest.1 b)),
    )

pub loop-x-preserved : goal.loop-x-preserved
loop-x-preserved c = elim c.if-is_source.branch [
  | then-is_source+else-not-is_source_at w ↦
      let source : is_source (decl_of c.at-decl.result.now).kind ≡ true = sym c.is_source.ensures ∙ w.if-is_source.true in
      let low : c.loop-x.i < length c.args.message.now.sources = omega (arith, c.if-i-len.false, c.len.ensures, c.loop-x.invariant.some) in
      let s = some-at c.args.message.now.sources c.loop-x.i low in
      let next = begins-next c.args.message.now c.args.graph.now c.loop-x.i c.loop-x.x (decl_of c.at-decl.result.now) s.0 c.at-decl.ensures.decl source s.1 ((w.is_source_at.ensures s.0 s.1).0 w.if-not-is_source_at.false) in
      record {
        within = omega (arith, c.loop-x-test.true, c.len-x-end.ensures.count);
        some = omega (arith, w.i-is, low);
        rest = subst (λ (i : ℕ). BeginsFrom c.args.message.now c.args.graph.now i (c.loop-x.x + 1) ↔ IsBeginning c.args.message.now c.args.graph.now) (sym w.i-is) (λ b. c.loop-x.invariant.rest.0 (next.1 b), λ b. next.0 (c.loop-x.invariant.rest.1 b));
      }
  | else-is_source w ↦
      let process : is_source (decl_of c.at-decl.result.now).kind ≡ false = sym c.is_source.ensures ∙ w.if-is_source.false in
      let next = begins-process c.args.message.now c.args.graph.now c.loop-x.i c.loop-x.x (decl_of c.at-decl.result.now) c.at-decl.ensures.decl process in
      record {
        within = omega (arith, c.loop-x-test.true, c.len-x-end.ensures.count);
        some = omega (arith, w.i-is, c.loop-x.invariant.some);
        rest = subst (λ (i : ℕ). BeginsFrom c.args.message.now c.args.graph.now i (c.loop-x.x + 1) ↔ IsBeginning c.args.message.now c.args.graph.now) (sym w.i-is) (λ b. c.loop-x.invariant.rest.0 (next.1 b), λ b. next.0 (c.loop-x.invariant.rest.1 b));
      }
]

pub returns : goal.returns
returns c =
    begins-end c.args.message.now c.args.graph.now c.loop-x.i c.loop-x.x c.len-2.result (omega (arith, c.loop-x-test.false, c.len-x-end.ensures.count)) c.loop-x.invariant.some c.len-2.ensures c.loop-x.invariant.rest
