use Rattle.tests_cores.proofs.work.evaluated.Goals as goal

pub evaluate-requires : goal.evaluate-requires
evaluate-requires g c = record { fits = c.fits.ensures.0 c.if-fits.true }
