use Rattle.std.proofs.Common.{◌≡◌, ◌+◌, ◌-◌, ◌≤◌, ℕ, length, refl, ◌∙◌, arith}
use Rattle.model_program.specs.Plan.{Plan}
use Rattle.model_program.specs.Follows.{View, view, IsPartOf}
use Rattle.model_program.specs.Merge.{merging_more}
use Rattle.lasp_call.specs.Words.{words_of}
use Rattle.lasp_run.proofs.MergeLaws.{leads-file, ends-file, leads-end}
use Rattle.lasp_run.proofs.merge.merge_rest.Goals as goal

pub returns-in-Err-clause-rest : goal.returns-in-Err-clause-rest
returns-in-Err-clause-rest g c =
    let before : View = view (g.F.Files.content c.args.files.now) (g.F.Files.faults c.args.files.now) (g.F.Files.faults c.loop-number.files) in
    let next : View = view (g.F.Files.content c.loop-number.files) (g.F.Files.faults c.loop-number.files) (g.F.Files.faults c.merge_next.new.files) in
    let whole : View = view (g.F.Files.content c.args.files.now) (g.F.Files.faults c.args.files.now) (g.F.Files.faults c.merge_next.new.files) in
    let early : IsPartOf before whole = record { content = λ n. refl; before = λ n. omega arith; after = λ n. c.in-Err.ensures.later n } in
    let late : IsPartOf next whole = record { content = λ n. c.loop-number.invariant.same n; before = λ n. c.loop-number.invariant.later n; after = λ n. omega arith } in
    let more : ℕ = length c.args.words.now - 2 - c.loop-number.number in
    let start : Plan = merging_more c.args.graph.now 1 (length c.args.words.now - 3) (g.N.Node.view c.args.first).peer in
    let some : 1 ≤ length c.args.words.now - 2 - c.loop-number.number = omega (arith, c.loop-number-test.true) in
    ends-file (words_of c.args.words.now) before next whole start c.args.graph.now c.loop-number.number more (g.N.Node.view c.loop-number.node).peer c.in-Err.failure early late some c.loop-number.invariant.rest c.in-Err.ensures.part

pub loop-number-preserved : goal.loop-number-preserved
loop-number-preserved g c =
    let before : View = view (g.F.Files.content c.args.files.now) (g.F.Files.faults c.args.files.now) (g.F.Files.faults c.loop-number.files) in
    let next : View = view (g.F.Files.content c.loop-number.files) (g.F.Files.faults c.loop-number.files) (g.F.Files.faults c.merge_next.new.files) in
    let whole : View = view (g.F.Files.content c.args.files.now) (g.F.Files.faults c.args.files.now) (g.F.Files.faults c.merge_next.new.files) in
    let early : IsPartOf before whole = record { content = λ n. refl; before = λ n. omega arith; after = λ n. c.in-Ok.ensures.later n } in
    let late : IsPartOf next whole = record { content = λ n. c.loop-number.invariant.same n; before = λ n. c.loop-number.invariant.later n; after = λ n. omega arith } in
    let more : ℕ = length c.args.words.now - 2 - c.loop-number.number in
    let start : Plan = merging_more c.args.graph.now 1 (length c.args.words.now - 3) (g.N.Node.view c.args.first).peer in
    let some : 1 ≤ length c.args.words.now - 2 - c.loop-number.number = omega (arith, c.loop-number-test.true) in
    let left : length c.args.words.now - 2 - (c.loop-number.number + 1) ≡ length c.args.words.now - 2 - c.loop-number.number - 1 = omega arith in
    record {
      some = omega arith;
      few = omega (arith, c.loop-number-test.true);
      node = c.in-Ok.ensures.node;
      same = λ n. c.in-Ok.ensures.same n ∙ c.loop-number.invariant.same n;
      later = λ n. omega (arith, c.in-Ok.ensures.later n, c.loop-number.invariant.later n);
      rest = leads-file (words_of c.args.words.now) before next whole start c.args.graph.now c.loop-number.number more (length c.args.words.now - 2 - (c.loop-number.number + 1)) (g.N.Node.view c.loop-number.node).peer (g.N.Node.view c.in-Ok.next).peer
          early late some left c.loop-number.invariant.rest c.in-Ok.ensures.part;
    }

pub returns-clause-rest : goal.returns-clause-rest
returns-clause-rest g c =
    let v : View = view (g.F.Files.content c.args.files.now) (g.F.Files.faults c.args.files.now) (g.F.Files.faults c.loop-number.files) in
    let start : Plan = merging_more c.args.graph.now 1 (length c.args.words.now - 3) (g.N.Node.view c.args.first).peer in
    let none : length c.args.words.now - 2 - c.loop-number.number ≡ 0 = omega (arith, c.loop-number-test.false) in
    let all : c.loop-number.number ≡ length c.args.words.now - 2 = omega (arith, c.loop-number-test.false, c.loop-number.invariant.few) in
    leads-end (words_of c.args.words.now) v start c.args.graph.now c.loop-number.number (length c.args.words.now - 2) (length c.args.words.now - 2 - c.loop-number.number) (g.N.Node.view c.loop-number.node).peer none all c.loop-number.invariant.rest
