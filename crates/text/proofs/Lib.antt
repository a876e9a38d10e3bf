-- `Laws` has the laws of `before`, of the parts of a text by it, and of digits; `FieldLaws` those of fields and letters; `NameLaws` those of
-- fields that are names; `FoldLaws` those of a text that is read line after line.
pub mod Laws
pub mod FieldLaws
pub mod NameLaws
pub mod FoldLaws
