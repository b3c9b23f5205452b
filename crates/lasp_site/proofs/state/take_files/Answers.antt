use Rattle.std.proofs.Common.{◌≡◌, ◌+◌, ◌-◌, ◌≤◌, ℕ, length, refl, ◌∙◌, arith}
use Rattle.model_program.specs.Follows.{View, view, IsPartOf}
use Rattle.model_site.specs.Plan.{Plan}
use Rattle.model_site.specs.Program.{filing_more}
use Rattle.lasp_call.specs.Words.{words_of}
use Rattle.lasp_site.proofs.FileLaws.{leads-file, ends-file, leads-end}
use Rattle.lasp_site.proofs.state.take_files.Goals as goal

pub loop-file-init : goal.loop-file-init
loop-file-init g c = record {
  some = omega arith;
  few = omega (arith, c.requires.words);
  node = c.requires.node;
  among = refl;
  same = λ n. refl;
  later = λ n. omega arith;
  rest = λ s w part result h. h;
}

pub returns-in-Err-clause-rest : goal.returns-in-Err-clause-rest
returns-in-Err-clause-rest g c = λ s.
    let before : View = view (g.F.Files.content c.args.files.now) (g.F.Files.faults c.args.files.now) (g.F.Files.faults c.loop-file.files) in
    let next : View = view (g.F.Files.content c.loop-file.files) (g.F.Files.faults c.loop-file.files) (g.F.Files.faults c.take_file.new.files) in
    let whole : View = view (g.F.Files.content c.args.files.now) (g.F.Files.faults c.args.files.now) (g.F.Files.faults c.take_file.new.files) in
    let early : IsPartOf before whole = record { content = λ n. refl; before = λ n. omega arith; after = λ n. c.in-Err.ensures.later n } in
    let late : IsPartOf next whole = record { content = λ n. c.loop-file.invariant.same n; before = λ n. c.loop-file.invariant.later n; after = λ n. omega arith } in
    let many : ℕ = length c.args.words.now - c.loop-file.file in
    let start : Plan = filing_more c.args.me c.args.graph.now s 4 (length c.args.words.now - 4) (g.N.Node.view c.args.first).peer in
    let some : 1 ≤ length c.args.words.now - c.loop-file.file = omega (arith, c.loop-file-test.true) in
    ends-file (words_of c.args.words.now) before next whole start c.args.me c.args.graph.now s c.loop-file.file many (g.N.Node.view c.loop-file.node).peer c.in-Err.failure early late some (c.loop-file.invariant.rest s) c.in-Err.ensures.part

pub loop-file-preserved : goal.loop-file-preserved
loop-file-preserved g c =
    let before : View = view (g.F.Files.content c.args.files.now) (g.F.Files.faults c.args.files.now) (g.F.Files.faults c.loop-file.files) in
    let next : View = view (g.F.Files.content c.loop-file.files) (g.F.Files.faults c.loop-file.files) (g.F.Files.faults c.take_file.new.files) in
    let whole : View = view (g.F.Files.content c.args.files.now) (g.F.Files.faults c.args.files.now) (g.F.Files.faults c.take_file.new.files) in
    let early : IsPartOf before whole = record { content = λ n. refl; before = λ n. omega arith; after = λ n. c.in-Ok.ensures.later n } in
    let late : IsPartOf next whole = record { content = λ n. c.loop-file.invariant.same n; before = λ n. c.loop-file.invariant.later n; after = λ n. omega arith } in
    let many : ℕ = length c.args.words.now - c.loop-file.file in
    let some : 1 ≤ length c.args.words.now - c.loop-file.file = omega (arith, c.loop-file-test.true) in
    let left : length c.args.words.now - (c.loop-file.file + 1) ≡ length c.args.words.now - c.loop-file.file - 1 = omega arith in
    record {
      some = omega (arith, c.loop-file.invariant.some);
      few = omega (arith, c.loop-file-test.true);
      node = c.in-Ok.ensures.node;
      among = c.in-Ok.ensures.among ∙ c.loop-file.invariant.among;
      same = λ n. c.in-Ok.ensures.same n ∙ c.loop-file.invariant.same n;
      later = λ n. omega (arith, c.in-Ok.ensures.later n, c.loop-file.invariant.later n);
      rest = λ s.
          leads-file (words_of c.args.words.now) before next whole (filing_more c.args.me c.args.graph.now s 4 (length c.args.words.now - 4) (g.N.Node.view c.args.first).peer) c.args.me c.args.graph.now s c.loop-file.file many (length c.args.words.now - (c.loop-file.file + 1))
          (g.N.Node.view c.loop-file.node).peer (g.N.Node.view c.in-Ok.next).peer early late some left (c.loop-file.invariant.rest s) c.in-Ok.ensures.part;
    }

pub returns-clause-rest : goal.returns-clause-rest
returns-clause-rest g c = λ s.
    let v : View = view (g.F.Files.content c.args.files.now) (g.F.Files.faults c.args.files.now) (g.F.Files.faults c.loop-file.files) in
    let start : Plan = filing_more c.args.me c.args.graph.now s 4 (length c.args.words.now - 4) (g.N.Node.view c.args.first).peer in
    let none : length c.args.words.now - c.loop-file.file ≡ 0 = omega (arith, c.loop-file-test.false) in
    leads-end (words_of c.args.words.now) v start c.args.me c.args.graph.now s c.loop-file.file (length c.args.words.now - c.loop-file.file) (g.N.Node.view c.loop-file.node).peer none (c.loop-file.invariant.rest s)
