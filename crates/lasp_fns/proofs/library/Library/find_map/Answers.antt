use Rattle.std.proofs.Common.{◌∙◌, sym}
use Rattle.lasp_fns.specs.Kept.{named_of}
use Rattle.lasp_fns.specs.Stored.{ops_of}
use Rattle.lasp_fns.proofs.Names.{place-told}
use Rattle.lasp_fns.proofs.library.Library.find_map.Goals as goal

pub returns : goal.returns
returns g c = c.find.ensures ∙ sym (place-told ops_of c.args.name.now (named_of c.args.self.now.maps))
