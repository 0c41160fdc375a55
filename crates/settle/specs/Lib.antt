-- What a round makes of the averages, what a run looks like to them, and the bound on its rounds.
pub mod Costs
pub mod Rounds
