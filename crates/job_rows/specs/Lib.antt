pub mod RowsAfter
