-- What crate `sheet` cites in the proofs of its code: laws of the words, of what is read, of histories and of the records.
pub use Rattle.sheetmodel.proofs.Words.{Same, same_put, same_trans, word_set, word_set_here, written}
pub use Rattle.sheetmodel.proofs.Chains.{keep_inspections}
pub use Rattle.sheetmodel.proofs.HistoryLaws.{classes_cons, fact, goes_on, has_unit, length_classes, test, units_of, without_last_snoc}
pub use Rattle.sheetmodel.proofs.Read.{depths, reads, reads_a_sheet, reads_inspections, serials, sound_free, sound_inspections, sound_lots}
pub use Rattle.sheetmodel.proofs.Lots.{Prior, find_above, prior_header, records_of_parts}
pub use Rattle.sheetmodel.proofs.Shares.{an_office, others_and_own, sum_same}
pub use Rattle.sheetmodel.proofs.Records.{OneFreed, one_freed, took}
pub use Rattle.sheetmodel.proofs.OnChains.{links_below}
pub use Rattle.sheetmodel.proofs.CarriedWords.{as_carried, header_length, raised_length, raised_word}
pub use Rattle.sheetmodel.proofs.Outcomes.{refuses, grants}
pub use Rattle.sheetmodel.proofs.Standing.{is_history}
pub use Rattle.sheetmodel.proofs.Change.{Found, find_lot, found_history, some_lot, some_value, no_lot}
pub use Rattle.sheetmodel.proofs.Opened.{within}
pub use Rattle.sheetmodel.proofs.Closed.{Added, Totalled, added, totalled}
