-- The laws of the chance of acceptance, its bounds, its chart and its refusals, kept (specs/Laws.antt), those of lots of known size
-- (specs/LotLaws.antt) and those of the expected number of units (specs/UnitsLaws.antt).
-- Assumes nothing.
use Rattle.chance.specs.Laws.{WidthLaw, RoundingLaw, ChanceLaw, FractionLaw, RefusalLaw, WordsLaw}
use Rattle.chance.specs.LotLaws.{DrawsLaw, LotLaw, NumbersLaw, CertainLaw, LotRefusalLaw, LotWeightsLaw, LotWordsLaw}
use Rattle.chance.specs.UnitsLaws.{StopLaw, UnitsLaw, OneClassLaw, OneVerdictLaw, UnitsRefusalLaw}
use Rattle.chance.proofs.Rounding as rounding
use Rattle.chance.proofs.Enclosure as enclosure
use Rattle.chance.proofs.ChanceLaw as chance
use Rattle.chance.proofs.Quotient as quotient
use Rattle.chance.proofs.Replies as replies
use Rattle.chance.proofs.Draws as draws
use Rattle.chance.proofs.LotLaw as lot
use Rattle.chance.proofs.Certain as certain
use Rattle.chance.proofs.LotReplies as lot_replies
use Rattle.chance.proofs.StopUnits as stop
use Rattle.chance.proofs.UnitsLaw as units
use Rattle.chance.proofs.OneClass as one_class
use Rattle.chance.proofs.UnitsReplies as units_replies

pub width_law : WidthLaw
width_law = rounding.width

pub rounding_law : RoundingLaw
rounding_law = enclosure.rounding_law

pub chance_law : ChanceLaw
chance_law = chance.chance_law

pub fraction_law : FractionLaw
fraction_law = quotient.fraction_law

pub refusal_law : RefusalLaw
refusal_law = replies.refusal_law

pub words_law : WordsLaw
words_law = replies.words_law

-- ---- lots of known size

pub draws_law : DrawsLaw
draws_law = draws.draws_law

pub lot_law : LotLaw
lot_law = lot.lot_law

pub numbers_law : NumbersLaw
numbers_law = draws.numbers_law

pub certain_law : CertainLaw
certain_law = certain.certain_law

pub lot_refusal_law : LotRefusalLaw
lot_refusal_law = lot_replies.lot_refusal_law

pub lot_weights_law : LotWeightsLaw
lot_weights_law = lot_replies.lot_weights_law

pub lot_words_law : LotWordsLaw
lot_words_law = lot_replies.lot_words_law

-- ---- the expected number of units

pub stop_law : StopLaw
stop_law = stop.stop_law

pub units_law : UnitsLaw
units_law = units.units_law

pub one_class_law : OneClassLaw
one_class_law = one_class.one_class_law

pub one_verdict_law : OneVerdictLaw
one_verdict_law = one_class.one_verdict_law

pub units_refusal_law : UnitsRefusalLaw
units_refusal_law = units_replies.units_refusal_law
