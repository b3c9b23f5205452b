use Rattle.std.proofs.Common.{rules, ◌≡◌, ◌<◌, ◌++◌, length, map, refl, ◌∙◌, arith}
use Rattle.std.specs.Prelude.{Some, slice_get, string_bytes}
use Rattle.std.proofs.lemmas.List.{length-map}
use Rattle.std.proofs.lemmas.Option.{slice_get_read}
use Rattle.model_world.specs.Report.{known_lines}
use Rattle.lasp_drive.proofs.NodeLaws.{mapped-at}
use Rattle.lasp_drive.proofs.ReportLaws.{known-end, known-next}
use Rattle.lasp_live.specs.Texts.{peer_in}
use Rattle.lasp_live.proofs.text.push_all_known.Goals as goal

pub loop-p-preserved : goal.loop-p-preserved
loop-p-preserved c =
    let cores = c.args.cores.now in
    let core = c.index-cores-p.result in
    let low : c.loop-p.p < length cores = omega (arith, c.loop-p-test.true, c.loop-p.invariant.end) in
    let at : slice_get cores c.loop-p.p ≡ Some core = slice_get_read cores (length cores) c.loop-p.p core refl low (search rules) in
    record {
      end = c.loop-p.invariant.end;
      within = omega (arith, low);
      text = known-next c.loop-p.p (map peer_in cores) (peer_in core) c.as_slice.result.now (string_bytes c.loop-p.text) (string_bytes c.push_known.new.text) (string_bytes c.args.text.now ++ known_lines 0 (map peer_in cores))
          (mapped-at peer_in cores c.loop-p.p core at) (c.as_slice.ensures ∙ c.counts.ensures) c.in_ok-push_known.ensures c.loop-p.invariant.text;
    }

pub returns : goal.returns
returns c =
    let cores = c.args.cores.now in
    known-end c.loop-p.p (map peer_in cores) (string_bytes c.loop-p.text) (string_bytes c.args.text.now ++ known_lines 0 (map peer_in cores)) (omega (arith, c.loop-p-test.false, c.loop-p.invariant.end, length-map cores peer_in)) c.loop-p.invariant.text
