use Rattle.std.proofs.Common.{rules, ◌≡◌, ◌<◌, ◌++◌, length, refl, arith}
use Rattle.std.specs.Prelude.{Some, slice_get, string_bytes}
use Rattle.std.proofs.lemmas.Option.{slice_get_read}
use Rattle.model_live.specs.Lived.{stories_lines, story_lines}
use Rattle.lasp_live.specs.Diary.{story_of}
use Rattle.lasp_live.specs.Texts.{stories_of}
use Rattle.lasp_live.proofs.TextLaws.{stories-end, stories-many, stories-next, story-at}
use Rattle.lasp_live.proofs.text.push_stories.Goals as goal

pub bounds-diaries-p : goal.bounds-diaries-p
bounds-diaries-p c = omega (arith, c.loop-p-test.true, c.loop-p.invariant.end, c.requires.told.many)

pub push_story-requires : goal.push_story-requires
push_story-requires c =
    let cores = c.args.cores.now in
    let diaries = c.args.diaries.now in
    let core = c.index-cores-p.result in
    let diary = c.index-diaries-p.result in
    let low : c.loop-p.p < length cores = omega (arith, c.loop-p-test.true, c.loop-p.invariant.end) in
    let at : slice_get cores c.loop-p.p ≡ Some core = slice_get_read cores (length cores) c.loop-p.p core refl low (search rules) in
    let there : slice_get diaries c.loop-p.p ≡ Some diary = slice_get_read diaries (length diaries) c.loop-p.p diary refl (omega (arith, low, c.requires.told.many)) (search rules) in
    c.requires.told.each c.loop-p.p core diary at there

pub loop-p-preserved : goal.loop-p-preserved
loop-p-preserved c =
    let g = c.args.graph.now in
    let cores = c.args.cores.now in
    let diaries = c.args.diaries.now in
    let core = c.index-cores-p.result in
    let diary = c.index-diaries-p.result in
    let low : c.loop-p.p < length cores = omega (arith, c.loop-p-test.true, c.loop-p.invariant.end) in
    let at : slice_get cores c.loop-p.p ≡ Some core = slice_get_read cores (length cores) c.loop-p.p core refl low (search rules) in
    let there : slice_get diaries c.loop-p.p ≡ Some diary = slice_get_read diaries (length diaries) c.loop-p.p diary refl (omega (arith, low, c.requires.told.many)) (search rules) in
    let pushed : string_bytes c.push_story.new.text ≡ string_bytes c.loop-p.text ++ story_lines g (length cores) c.loop-p.p (story_of core.entries diary) =
    c.in_ok-push_story.ensures in
    record {
      end = c.loop-p.invariant.end;
      within = omega (arith, low);
      text = stories-next g (length cores) c.loop-p.p (stories_of cores diaries) (story_of core.entries diary) (string_bytes c.loop-p.text) (string_bytes c.push_story.new.text)
          (string_bytes c.args.text.now ++ stories_lines g (length cores) 0 (stories_of cores diaries)) c.loop-p.invariant.text (story-at cores diaries c.loop-p.p core diary at there) pushed;
    }

pub returns : goal.returns
returns c =
    let g = c.args.graph.now in
    let cores = c.args.cores.now in
    let diaries = c.args.diaries.now in
    stories-end g (length cores) c.loop-p.p (stories_of cores diaries) (string_bytes c.loop-p.text) (string_bytes c.args.text.now ++ stories_lines g (length cores) 0 (stories_of cores diaries)) c.loop-p.invariant.text
    (omega (arith, c.loop-p-test.false, c.loop-p.invariant.end, stories-many cores diaries c.requires.told.many))
