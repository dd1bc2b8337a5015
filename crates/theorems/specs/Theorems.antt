-- The page of theorems: what is proved, each statement in one line and where it stands. proofs/TheoremsProved has a proof of each: one citation.
-- What must be believed is the definitions that these statements cite: crates/spec/specs, and for a standard's words crates/grammar/specs.
use Rattle.spec.specs.Demand3.{Demand3}
use Rattle.spec.specs.Effects.{EffectsStatement}
use Rattle.spec.specs.Shape.{ShapeStatement}
use Rattle.grammar.specs.Theorems.{Exactness, Unambiguity, Refusals, PlaceOf3, CutShort}
use Rattle.grammar.specs.RefusedAt.{LeftToRight, Given3, Given4, Given5, Given6, Given7}
use Rattle.claims.specs.Numbers.{NumbersStatement}
use Rattle.claims.specs.Equality.{EqualityStatement}
use Rattle.claims.specs.Pointers.{PointersStatement}
use Rattle.claims.specs.Operations.{OperationsStatement}
use Rattle.claims.specs.RoundTrip.{RoundTripStatement}
use Rattle.merging.specs.Claims.{MergeStatement}
use Rattle.merging.specs.Examples as Merging
use Rattle.lexer.specs.ByClass.{CharactersByClass, ItselfByClass}
use Rattle.region.specs.Claims as Region
use Rattle.region.specs.Examples as Maker
use Rattle.isolation.specs.Isolation.{IsolationStatement}
use Rattle.isolation.specs.Example as Isolation
use Rattle.isolation_call.specs.Calls.{IsolatedCallsStatement, CallsMetStatement}
use Rattle.intel_hex.specs.Claims as Hex
use Rattle.json_patch.specs.Region.{CallInRegions}
use Rattle.json_patch.specs.Columns.{ColumnsStatement}
use Rattle.record.specs.Rows.{SameFields}
use Rattle.reversal.specs.Statement.{UndoStatement}
use Rattle.reversal.specs.Examples as Undo
use Rattle.comparison.specs.Comparison.{ComparisonStatement}
use Rattle.comparison.specs.Examples as Counting
use Rattle.comparison.specs.Call as Comparing
use Rattle.origin.specs.Forgetting.{ForgettingStatement}
use Rattle.origin.specs.Claims.{OriginStatement}
use Rattle.origin.specs.Order.{OrderStatement}
use Rattle.origin.specs.Examples as Origin
use Rattle.origin_within.specs.Claims.{WithinStatement}
use Rattle.origin_within.specs.Examples as OriginWithin
use Rattle.inspection.specs.Claims.{CountStatement}
use Rattle.sequence.specs.Sequence.{SequenceStatement}
use Rattle.sequence.specs.Examples as InARow
use Rattle.sequence_call.specs.Calls.{CallsStatement}
use Rattle.fragment.specs.Claims as Link
use Rattle.json_patch.proofs.apply.Statement as Apply
use Rattle.json_patch.proofs.json_patch_apply.Statement as ApplyForC
use Rattle.region_call.proofs.apply_within.Statement as ApplyWithin
use Rattle.region_call.proofs.json_patch_apply_within.Statement as ApplyWithinForC
use Rattle.undo.proofs.apply_with_undo.Statement as ApplyWithUndo
use Rattle.undo.proofs.json_patch_apply_with_undo.Statement as ApplyWithUndoForC
use Rattle.merge.proofs.merge.Statement as Merge
use Rattle.merge.proofs.json_patch_merge.Statement as MergeForC
use Rattle.compare.proofs.compare.Statement as Compare
use Rattle.compare.proofs.json_patch_compare.Statement as CompareForC
use Rattle.inspect.proofs.inspect.Statement as Inspect
use Rattle.inspect.proofs.json_patch_inspect.Statement as InspectForC
use Rattle.listing.proofs.apply_listing.Statement as ApplyListing
use Rattle.listing.proofs.json_patch_apply_origins.Statement as ApplyListingForC
use Rattle.region_listing.proofs.apply_within_listing.Statement as ApplyWithinListing
use Rattle.region_listing.proofs.json_patch_apply_within_origins.Statement as ApplyWithinListingForC
use Rattle.merge_listing.proofs.merge_listing.Statement as MergeListing
use Rattle.merge_listing.proofs.json_patch_merge_origins.Statement as MergeListingForC
use Rattle.undo_listing.proofs.apply_with_undo_listing.Statement as ApplyWithUndoListing
use Rattle.undo_listing.proofs.json_patch_apply_with_undo_origins.Statement as ApplyWithUndoListingForC
use Rattle.fragment.proofs.write_link.Statement as WriteLink
use Rattle.fragment.proofs.read_link.Statement as ReadLink
use Rattle.intel_hex.proofs.write_hex.Statement as WriteHex
use Rattle.intel_hex.proofs.read_hex.Statement as ReadHex

-- ---- the three demands
pub record Demands : Type 2 where
  -- Total and exact: the code of `json_patch::apply` meets its contract, in every model of the machine. The contract is `ApplyIs`, in
  -- crates/json_patch/specs/Call: on every input the call returns, answers what `answer` defines (crates/spec/specs/Answer), and leaves all lent
  -- memory as it says. It asks nothing of the caller.
  pub total_and_exact : {M : Type 1} → Apply.statement M
  -- the same for the function that the export for C calls, with the same clauses (crate json_patch_c)
  pub for_c : {M : Type 1} → ApplyForC.statement M
  -- shuffles of two patches in regions of their own don't matter: of the definition, with an example that meets the premises,
  pub shuffles : Demand3
  -- and of whatever the call answers
  pub calls : CallInRegions

-- ---- reading is RFC 8259
pub record Grammar : Type 0 where
  -- a text is read as a value exactly where the grammar derives it and the limits hold
  pub exactness : Exactness
  -- a text has one meaning
  pub unambiguity : Unambiguity
  -- a derived text is refused only over a limit
  pub refusals : Refusals
  -- the place of a 3 is the end of the longest beginning of a text
  pub place_of_3 : PlaceOf3
  pub cut_short : CutShort
  -- a refusal is the first cause from the left,
  pub left_to_right : LeftToRight
  -- and each number is given at its place and nowhere else
  pub given_3 : Given3
  pub given_4 : Given4
  pub given_5 : Given5
  pub given_6 : Given6
  pub given_7 : Given7

-- ---- what the definitions mean, in the words of RFC 6901 and 6902
pub record Meanings : Type 1 where
  -- the walk and the six operations
  pub effects : EffectsStatement
  -- the shape of a patch
  pub shape : ShapeStatement
  -- numbers compare by exact value; zeros of either sign are equal (SPECIFICATION 7.4, T-04)
  pub numbers : NumbersStatement
  -- values compare by RFC 6902, section 4.6
  pub equality : EqualityStatement
  -- a pointer is its tokens, escaped
  pub pointers : PointersStatement
  -- replace, move, copy and test in terms of remove and add
  pub operations : OperationsStatement
  -- what is written is read back
  pub round_trip : RoundTripStatement

-- ---- the requests (docs/changes), what is proved of their definitions. T-01 is part of `effects` above, and T-04 of `numbers` and `equality`.
pub record Requests : Type 0 where
  -- T-02: a merge patch is RFC 7396's; its fifteen examples, and two of positions
  pub merging : MergeStatement
  pub merging_appendix : Merging.All Merging.appendix
  pub merging_positions : Merging.All Merging.positions
  -- T-03: a string is read by the classes of bytes as the standard says, and the class of other ASCII is the bytes that stand for themselves
  pub characters-by_class : CharactersByClass
  pub itself_by_class : ItselfByClass
  -- T-05: a maker's patch is refused exactly where the rule says, its paths are strictly inside its region, and what passes gives the answer of a
  -- plain patch; whole answers, and a patch that passes
  pub maker_shape : Region.ShapeWithinStatement
  pub maker_rule : Region.RuleStatement
  pub maker_inside : Region.InsideStatement
  pub maker_all_inside : Region.AllInsideStatement
  pub maker_passes : Region.PassesStatement
  pub maker_examples : Maker.ExamplesStatement
  -- T-06: nobody else's shelf decides, of the definition and of the calls, with two documents that meet the premises
  pub isolation : IsolationStatement
  pub isolation_example : Isolation.ExampleStatement
  pub isolation_calls : IsolatedCallsStatement
  pub isolation_calls_met : CallsMetStatement
  -- T-07: Intel HEX that was written is read back; sums are zero; the reader accepts exactly the records
  pub hex_round_trip : Hex.RoundTrip
  pub hex_sums : Hex.SumIsZero
  pub hex_only_records : Hex.OnlyRecords
  pub hex_all_records : Hex.AllRecords
  -- T-08: the list of records answers as the columns did; a record of C and a row of the engine are the same fields
  pub columns : ColumnsStatement
  pub records : SameFields
  -- T-09: the undo takes a patch back, with examples that meet the premises
  pub undo : UndoStatement
  pub undo_examples : Undo.Witness
  -- T-10: the count's verdict is equality's, and the count is at most a times b; the same holds of the answer on two texts
  pub comparison : ComparisonStatement
  pub comparison-examples : Counting.All Counting.examples
  pub comparison_call : Comparing.CallStatement
  -- T-11: with origins forgotten, all is as it was; which origin each value has, in operations, merges and undos; in which order they are listed; and in a
  -- region; with examples
  pub origins-forgotten : ForgettingStatement
  pub origins : OriginStatement
  pub origins_in_order : OrderStatement
  pub origins-within : WithinStatement
  pub origins-examples : Origin.AllPatches Origin.patches
  pub origins_merged : Origin.AllMerges Origin.merges
  pub origins_edges : Origin.Edges
  pub origins-within_example : OriginWithin.Example
  -- T-12: the line of a list of patch files: another order, two lists joined, its sums; a patch is refused as the plain call refuses it
  pub count : CountStatement
  -- T-13: patches in a row are one, of the definition and of the calls, with examples that meet the premises
  pub in_a_row : SequenceStatement
  pub in_a_row_calls : CallsStatement
  pub in_a_row_examples : InARow.ExamplesStatement
  -- T-14: a link that was written is read back; links name pointers, and those of one pointer differ in percents alone
  pub link_round_trip : Link.RoundTrip
  pub link-names : Link.NamesPointer
  pub link-accepted : Link.AllAccepted
  pub link_percents : Link.DifferInPercents

-- ---- the other calls: the code of each meets its contract, in every model of the machine, as the plain call's does. The contract stands in the crate's
-- specs/Call, and says on every input what is answered and what all lent memory is afterwards. None asks anything of the caller. What ends in
-- `_for_c` is of the function that an export for C calls, with the same clauses (crates NAME_c).
pub record Calls : Type 2 where
  -- T-02
  pub merge : {M : Type 1} → Merge.statement M
  pub merge_for_c : {M : Type 1} → MergeForC.statement M
  -- T-05
  pub apply_within : {M : Type 1} → ApplyWithin.statement M
  pub apply_within_for_c : {M : Type 1} → ApplyWithinForC.statement M
  -- T-07
  pub write_hex : {M : Type 1} → WriteHex.statement M
  pub read_hex : {M : Type 1} → ReadHex.statement M
  -- T-09
  pub apply_with_undo : {M : Type 1} → ApplyWithUndo.statement M
  pub apply_with_undo_for_c : {M : Type 1} → ApplyWithUndoForC.statement M
  -- T-10
  pub compare : {M : Type 1} → Compare.statement M
  pub compare_for_c : {M : Type 1} → CompareForC.statement M
  -- T-11
  pub apply_listing : {M : Type 1} → ApplyListing.statement M
  pub apply_listing_for_c : {M : Type 1} → ApplyListingForC.statement M
  pub apply_within-listing : {M : Type 1} → ApplyWithinListing.statement M
  pub apply_within-listing_for_c : {M : Type 1} → ApplyWithinListingForC.statement M
  pub merge_listing : {M : Type 1} → MergeListing.statement M
  pub merge_listing_for_c : {M : Type 1} → MergeListingForC.statement M
  pub apply_with_undo_listing : {M : Type 1} → ApplyWithUndoListing.statement M
  pub apply_with_undo_listing_for_c : {M : Type 1} → ApplyWithUndoListingForC.statement M
  -- T-12
  pub inspect : {M : Type 1} → Inspect.statement M
  pub inspect_for_c : {M : Type 1} → InspectForC.statement M
  -- T-14
  pub write-link : {M : Type 1} → WriteLink.statement M
  pub read-link : {M : Type 1} → ReadLink.statement M

pub record Theorems : Type 2 where
  pub demands : Demands
  pub grammar : Grammar
  pub meanings : Meanings
  pub requests : Requests
  pub calls : Calls
