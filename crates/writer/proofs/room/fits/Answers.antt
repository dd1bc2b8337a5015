-- `fits` meets its contract: where the text surely fits the answer is yes; otherwise its length is compared.
use mathlib.Core.Path.{sym}
use borrow.Author.Tests.{le-leb}
use Rattle.writer.proofs.RoomLaws.{cut-compared}
use Rattle.writer.proofs.room.fits.Goals as goal

pub returns-then-surely_fits : goal.returns-then-surely_fits
returns-then-surely_fits c = λ d kids w. sym (le-leb _ _ (c.surely_fits.ensures.there c.if-surely_fits.true _ _ d kids w))

pub returns : goal.returns
returns c = λ d kids w. cut-compared _ (c.measure.ensures.held d kids w) (c.surely_fits.ensures.little c.if-surely_fits.false)
