-- The result in the table: rows that are laid down one behind the other.
use Rattle.std.specs.Prelude.{ℕ, ◌+◌, ◌-◌, ◌%◌, min, ◌≡◌, List, [], eqb, length, take, drop, get_or, set, if◌then◌else◌}
use Rattle.spec.specs.Forest.{Forest, none, tree, size}
use Rattle.tape.specs.Layout.{values, object_kind}
use Rattle.tape.specs.Fields.{Row, no_node, with_span, kind_of, origin_of}
use Rattle.tape.specs.Columns.{moved}
use Rattle.tape.specs.Tape.{tape}
use Rattle.tape.specs.declared.fields.Cell.{Cell}
use Rattle.tape.specs.Cell.{row_of, Formed}
use Rattle.tape.specs.Rows.{end_of}
use Rattle.tape.specs.Lent.{Texts}
use Rattle.table.specs.Sound.{Sound}
use Rattle.origin.specs.Value.{Members}
use Rattle.operations.specs.Stamp.{with_origin}
use Rattle.merge.specs.Bearing.{View, members_by, cell_with}

-- rows are counted up to one behind the table's last
abbrev pub full : ℕ
full = 6_145

-- how many rows a tree takes
abbrev pub tree_rows : List Row → ℕ → ℕ
tree_rows nodes from = end_of nodes from - from

pub record CopyIs (nodes : List Row) (from to : ℕ) (nodes' : List Row) (r : ℕ) : Type 0 where
  pub nodes_are : nodes' ≡ moved nodes to from (tree_rows nodes from)
  pub next_is : r ≡ min (to + tree_rows nodes from) full

-- the origin of the object that is made of the value in the row `target`: an object of the document keeps its own, and any other value becomes an
-- object of the patch
unfoldable pub object_origin : List Row → ℕ → ℕ → ℕ
object_origin nodes target patch =
    if eqb (kind_of (get_or nodes target [])) object_kind then origin_of (get_or nodes target no_node) else origin_of (get_or nodes patch no_node)

-- the node in the row `patch` is stored in the row `to`, with that origin; the rows behind it, up to `next`, are below it
unfoldable pub closed : List Row → ℕ → ℕ → ℕ → ℕ → List Row
closed nodes target patch to next =
    if eqb next to then nodes else
    set nodes to (with_origin (with_span (get_or nodes patch no_node) ((next - to - 1) % values)) (object_origin nodes target patch))

-- the rows before `to` are the same
pub record Framed (to : ℕ) (nodes nodes' : List Row) : Type 0 where
  pub before : take to nodes' ≡ take to nodes
  pub same_length : length nodes' ≡ length nodes

-- the rows from `start` up to `end` are those of a sound forest that means these members
pub record Built (o : View) (T : Texts) (nodes : List Row) (start end : ℕ) (all : Members) : Type 0 where
  pub cells : Forest Cell
  pub ends : start + size cells ≡ end
  pub rows : drop start (take end nodes) ≡ tape row_of cells
  pub formed : Formed cells
  pub means : members_by o T cells ≡ all
  pub sound : Sound T cells

-- they are those of one node, which bears an origin, and of a sound forest below it
pub record BuiltNode (o : View) (T : Texts) (nodes : List Row) (start end : ℕ) (c : Cell) (origin : ℕ) (all : Members) : Type 0 where
  pub cells : Forest Cell
  pub bears : ℕ
  pub told : o bears ≡ origin
  pub ends : start + 1 + size cells ≡ end
  pub rows : drop start (take end nodes) ≡ tape row_of (tree (cell_with bears c) cells none)
  pub formed : Formed (tree (cell_with bears c) cells none)
  pub means : members_by o T cells ≡ all
  pub sound : Sound T cells
