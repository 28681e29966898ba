-- Rows that are read one after the other.
use Rattle.std.specs.Prelude.{◌≡◌, Bool, true, false, List, ◌++◌, Some}
use Rattle.sqlite_value.specs.Order.{Row}
use Rattle.sqlite_trees.specs.View.{View}

-- nothing but cursors has moved
abbrev pub OnlyMoves : View → View → Type 0
OnlyMoves old new = new ≡ record old { cursors = new.cursors }

-- the cursor has these to give
abbrev pub IsLeft : View → List Row → Type 0
IsLeft v left = v.cursors 0 ≡ Some left

-- these were read, and the others of all are left
pub record StoreIsReading (v : View) (rows all : List Row) : Type 0 where
  pub left : List Row
  pub is : IsLeft v left
  pub whole : rows ++ left ≡ all

-- a row was read, or there was none
abbrev pub ReadsRows : View → List Row → Bool → View → List Row → Type 0
ReadsRows old rows true new now = (all : List Row) → StoreIsReading old rows all → StoreIsReading new now all
ReadsRows old rows false new now = (all : List Row) → StoreIsReading old rows all → now ≡ all
