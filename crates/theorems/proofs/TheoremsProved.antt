-- Each theorem of the page, by citation.
use Rattle.spec.proofs.Demand3Theorem.{demand3}
use Rattle.spec.proofs.EffectsTheorem.{effects}
use Rattle.spec.proofs.ShapeTheorem.{shaped_so}
use Rattle.grammar.proofs.Theorems as Grammar
use Rattle.grammar.proofs.RefusedAt as Refused
use Rattle.claims.proofs.ClaimsTheorem.{claims}
use Rattle.merging.proofs.MergeTheorem.{merging}
use Rattle.merging.proofs.ExamplesTheorem as Merging
use Rattle.lexer.proofs.ClassLaws.{characters-by_class, itself_by_class}
use Rattle.region.proofs.ClaimTheorems as Region
use Rattle.region.proofs.ExamplesTheorem as Maker
use Rattle.isolation.proofs.IsolationTheorem.{isolation}
use Rattle.isolation.proofs.ExampleTheorem as Isolation
use Rattle.isolation_call.proofs.CallsTheorem.{isolated_calls, calls_met}
use Rattle.intel_hex.proofs.ClaimTheorems as Hex
use Rattle.json_patch.proofs.RegionTheorem.{call_in_regions}
use Rattle.json_patch.proofs.ColumnsTheorem.{columns}
use Rattle.record.proofs.RowsTheorem.{same_fields}
use Rattle.reversal.proofs.UndoTheorem.{undo_theorem}
use Rattle.reversal.proofs.ExamplesTheorem as Undo
use Rattle.comparison.proofs.ComparisonTheorem.{comparison}
use Rattle.comparison.proofs.ExamplesTheorem as Counting
use Rattle.comparison.proofs.CallTheorem as Comparing
use Rattle.origin.proofs.ForgettingTheorem.{forgetting}
use Rattle.origin.proofs.OriginTheorem.{origin}
use Rattle.origin.proofs.OrderTheorem.{order}
use Rattle.origin.proofs.ExamplesTheorem as Origin
use Rattle.origin_within.proofs.WithinTheorem.{within}
use Rattle.origin_within.proofs.ExamplesTheorem as OriginWithin
use Rattle.inspection.proofs.ClaimTheorems.{counted}
use Rattle.sequence.proofs.SequenceTheorem.{sequence}
use Rattle.sequence.proofs.ExamplesTheorem as InARow
use Rattle.sequence_call.proofs.CallsTheorem.{calls}
use Rattle.fragment.proofs.ClaimTheorems as Link
use Rattle.json_patch.proofs.apply.Met as Apply
use Rattle.json_patch.proofs.json_patch_apply.Met as ApplyForC
use Rattle.region_call.proofs.apply_within.Met as ApplyWithin
use Rattle.region_call.proofs.json_patch_apply_within.Met as ApplyWithinForC
use Rattle.undo.proofs.apply_with_undo.Met as ApplyWithUndo
use Rattle.undo.proofs.json_patch_apply_with_undo.Met as ApplyWithUndoForC
use Rattle.merge.proofs.merge.Met as Merge
use Rattle.merge.proofs.json_patch_merge.Met as MergeForC
use Rattle.compare.proofs.compare.Met as Compare
use Rattle.compare.proofs.json_patch_compare.Met as CompareForC
use Rattle.inspect.proofs.inspect.Met as Inspect
use Rattle.inspect.proofs.json_patch_inspect.Met as InspectForC
use Rattle.listing.proofs.apply_listing.Met as ApplyListing
use Rattle.listing.proofs.json_patch_apply_origins.Met as ApplyListingForC
use Rattle.region_listing.proofs.apply_within_listing.Met as ApplyWithinListing
use Rattle.region_listing.proofs.json_patch_apply_within_origins.Met as ApplyWithinListingForC
use Rattle.merge_listing.proofs.merge_listing.Met as MergeListing
use Rattle.merge_listing.proofs.json_patch_merge_origins.Met as MergeListingForC
use Rattle.undo_listing.proofs.apply_with_undo_listing.Met as ApplyWithUndoListing
use Rattle.undo_listing.proofs.json_patch_apply_with_undo_origins.Met as ApplyWithUndoListingForC
use Rattle.fragment.proofs.write_link.Met as WriteLink
use Rattle.fragment.proofs.read_link.Met as ReadLink
use Rattle.intel_hex.proofs.write_hex.Met as WriteHex
use Rattle.intel_hex.proofs.read_hex.Met as ReadHex
use Rattle.theorems.specs.Theorems.{Theorems}

pub theorems : Theorems
theorems =
    record {
      demands = record { total_and_exact = Apply.met; for_c = ApplyForC.met; shuffles = demand3; calls = call_in_regions };
      grammar =
          record {
            exactness = Grammar.exactness;
            unambiguity = Grammar.unambiguity;
            refusals = Grammar.refusals;
            place_of_3 = Grammar.place_of_3;
            cut_short = Grammar.cut_short;
            left_to_right = Refused.left_to_right;
            given_3 = Refused.given_3;
            given_4 = Refused.given_4;
            given_5 = Refused.given_5;
            given_6 = Refused.given_6;
            given_7 = Refused.given_7;
          };
      meanings =
          record {
            effects = effects;
            shape = shaped_so;
            numbers = claims.numbers;
            equality = claims.equality;
            pointers = claims.pointers;
            operations = claims.operations;
            round_trip = claims.round_trip;
          };
      requests =
          record {
            merging = merging;
            merging_appendix = Merging.appendix_holds;
            merging_positions = Merging.positions_hold;
            characters-by_class = characters-by_class;
            itself_by_class = itself_by_class;
            maker_shape = Region.shaped_within;
            maker_rule = Region.rule_broken;
            maker_inside = Region.strictly_inside_lem;
            maker_all_inside = Region.all_inside_lem;
            maker_passes = Region.passes_plain;
            maker_examples = Maker.examples;
            isolation = isolation;
            isolation_example = Isolation.example;
            isolation_calls = isolated_calls;
            isolation_calls_met = calls_met;
            hex_round_trip = Hex.round_trip;
            hex_sums = Hex.sum_is_zero;
            hex_only_records = Hex.only_records;
            hex_all_records = Hex.all_records;
            columns = columns;
            records = same_fields;
            undo = undo_theorem;
            undo_examples = Undo.witness;
            comparison = comparison;
            comparison-examples = Counting.counted;
            comparison_call = Comparing.told;
            origins-forgotten = forgetting;
            origins = origin;
            origins_in_order = order;
            origins-within = within;
            origins-examples = Origin.patches_hold;
            origins_merged = Origin.merges_hold;
            origins_edges = Origin.edges;
            origins-within_example = OriginWithin.example;
            count = counted;
            in_a_row = sequence;
            in_a_row_calls = calls;
            in_a_row_examples = InARow.examples;
            link_round_trip = Link.round_trip;
            link-names = Link.names_pointer;
            link-accepted = Link.all_accepted;
            link_percents = Link.differ_in_percents;
          };
      calls =
          record {
            merge = Merge.met;
            merge_for_c = MergeForC.met;
            apply_within = ApplyWithin.met;
            apply_within_for_c = ApplyWithinForC.met;
            write_hex = WriteHex.met;
            read_hex = ReadHex.met;
            apply_with_undo = ApplyWithUndo.met;
            apply_with_undo_for_c = ApplyWithUndoForC.met;
            compare = Compare.met;
            compare_for_c = CompareForC.met;
            apply_listing = ApplyListing.met;
            apply_listing_for_c = ApplyListingForC.met;
            apply_within-listing = ApplyWithinListing.met;
            apply_within-listing_for_c = ApplyWithinListingForC.met;
            merge_listing = MergeListing.met;
            merge_listing_for_c = MergeListingForC.met;
            apply_with_undo_listing = ApplyWithUndoListing.met;
            apply_with_undo_listing_for_c = ApplyWithUndoListingForC.met;
            inspect = Inspect.met;
            inspect_for_c = InspectForC.met;
            write-link = WriteLink.met;
            read-link = ReadLink.met;
          };
    }
