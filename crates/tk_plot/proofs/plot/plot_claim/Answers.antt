use Rattle.tk_plot.proofs.plot.plot_claim.Goals as goal

pub returns-in-None : goal.returns-in-None
returns-in-None g c = c.plot_tour.ensures
