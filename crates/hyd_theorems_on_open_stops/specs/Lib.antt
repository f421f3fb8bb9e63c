pub mod OnwardOpenly
