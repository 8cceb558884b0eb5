pub mod PadQuery
