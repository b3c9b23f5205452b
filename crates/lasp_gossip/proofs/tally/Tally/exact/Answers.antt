use Rattle.std.proofs.Common.{◌^◌, ◌-◌, map, arith}
use Rattle.std.specs.Arc.{arc_value}
use Rattle.lasp_gossip.proofs.SizeLaws.{rest_is, tally-all}
use Rattle.lasp_gossip.proofs.tally.Tally.exact.Goals as goal

pub bytes_of-requires : goal.bytes_of-requires
bytes_of-requires c = omega (arith, rest_is arc_value c.args.messages.now c.args.self.now.counted, c.requires.bounded, c.requires.within)

pub overflow_add-result : goal.overflow_add-result
overflow_add-result c = omega (arith, rest_is arc_value c.args.messages.now c.args.self.now.counted, c.in_ok-rest.ensures, c.requires.bounded, c.requires.within)

pub returns : goal.returns
returns c =
    let all = tally-all (map arc_value c.args.messages.now) (2 ^ 64 - 1) c.args.self.now.counted c.args.self.now.size c.args.self.now.most c.requires in
    omega (arith, rest_is arc_value c.args.messages.now c.args.self.now.counted, c.in_ok-rest.ensures, all)
