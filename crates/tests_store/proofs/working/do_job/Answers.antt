use Rattle.tests_store.proofs.working.do_job.Goals as goal

pub evaluate-requires : goal.evaluate-requires
evaluate-requires g c = record { fits = c.fits.ensures.0 c.if-not-fits.false }
