-- of the code that reads a sheet
mod Sizes
mod WordSums
mod Used
mod HeaderSteps
mod ChainSteps
mod Tested
mod LotSteps
mod FreeSteps
mod SurveySteps
-- of the code that writes one
mod FreedChain
mod TotalsKept
mod Unlinked
mod Pasted
mod FivesPut
mod HeaderWords
mod CarryWords
mod Requires
mod OfficeSteps
-- of the calls
mod FreshOutcome
mod CarryOutcome
mod LocatedFacts
mod GrantFacts
mod CallSteps
mod EstimateSteps
