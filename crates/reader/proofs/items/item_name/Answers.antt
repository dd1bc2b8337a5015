-- `item_name` meets its contract.
use Rattle.reader.proofs.MemberLaws.{item_named, item_nameless}
use Rattle.reader.proofs.items.item_name.Goals as goal

pub member_name-requires : goal.member_name-requires
member_name-requires c = record {
  lent = c.requires;
  object = c.if-container.true;
}

pub returns-then-container : goal.returns-then-container
returns-then-container c = item_named _ c.if-container.true c.member_name.ensures

pub returns : goal.returns
returns c = item_nameless _ c.if-container.false c.no_name.ensures
