use Rattle.model_site.proofs.GrowthLaws.{contents-grow, counts-grow, shown-grow}
use Rattle.model_site.proofs.histories.sites_only_grow.Goals as goal

pub returns-clause-contents : goal.returns-clause-contents
returns-clause-contents c = contents-grow

pub returns-clause-counts : goal.returns-clause-counts
returns-clause-counts c = counts-grow

pub returns-clause-shown : goal.returns-clause-shown
returns-clause-shown c = shown-grow
